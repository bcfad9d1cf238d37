-- Names the files of lemmas of `lv_bodies`.
pub mod Entries
pub mod HalfFolds
pub mod KeptNames
pub mod MoreFolds
pub mod PairFolds
pub mod RunSums
pub mod SixFolds
