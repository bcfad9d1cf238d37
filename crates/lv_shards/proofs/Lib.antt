-- Names the files of lemmas of `lv_shards`.
pub mod Back
pub mod Grouping
pub mod InOrder
pub mod Possible
pub mod Present
pub mod ReadBack
pub mod Short
pub mod Tables
pub mod TooLong
pub mod TwoJoined
pub mod Written
