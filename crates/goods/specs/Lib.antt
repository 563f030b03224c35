pub mod Pooled
pub mod NamedGoods
pub mod Views
pub mod Fixed
pub mod Items
pub mod Pools
