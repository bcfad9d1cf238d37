-- Names the files of definitions of `lv_geometry`.
pub mod Bounds
pub mod Cells
pub mod Elements
pub mod Levels
pub mod Nodes
pub mod Numbers
