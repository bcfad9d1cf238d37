-- Names the files of definitions of `lv_series`.
pub mod Batches
pub mod Blocks
pub mod Numbers
pub mod Places
pub mod Plain
pub mod Samples
pub mod ScanLaws
pub mod Series
pub mod Trees
