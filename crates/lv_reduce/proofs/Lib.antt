-- Names the files of lemmas of `lv_reduce`.
mod BlockWalks
mod Bounds
mod Counting
mod GreatestLaws
pub mod NodeLaws
pub mod PieceLaws
mod PieceSums
mod RunLaws
pub mod ScanLaws
mod TwoLaws
pub mod UsedLaws
pub mod WalkLaws
mod Zeros
