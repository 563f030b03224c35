mod Moves
mod Drawing
