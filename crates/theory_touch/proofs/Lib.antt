-- A touch of one span and a removal keep a store sound.
pub mod Bools
pub mod Holds
pub mod Pieces
pub mod Marks
pub mod Recut
pub mod Touch
pub mod CutOut
pub mod Remove
