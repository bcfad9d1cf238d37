-- Names the files of definitions of `lv_saved`.
pub mod Fronts
pub mod Numbers
pub mod Readings
pub mod Saved
