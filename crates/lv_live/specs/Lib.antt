-- Names the files of definitions of `lv_live`.
pub mod Batches
pub mod EveryRun
pub mod Follows
pub mod Kept
pub mod PlainAnswers
pub mod Pushed
pub mod State
pub mod Step
pub mod Subtrees
pub mod Turns
pub mod Written
