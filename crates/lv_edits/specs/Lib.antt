-- Names the files of definitions of `lv_edits`.
pub mod Batches
pub mod Capacity
pub mod History
pub mod Inner
pub mod Kept
pub mod Pushes
pub mod Ranges
pub mod Touch
pub mod Verdict
