-- Names the files of definitions of `lv_reduce`.
pub mod Answer
pub mod Cost
pub mod Pieces
pub mod Rows
pub mod Running
pub mod Stretch
