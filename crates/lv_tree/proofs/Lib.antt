-- Names the files of lemmas of `lv_tree`.
mod AnswerLaws
pub mod Before
pub mod Between
pub mod CachedLaws
pub mod Ends
pub mod FollowLaws
pub mod Found
pub mod Glue
pub mod Groups
pub mod InOrder
pub mod Kept
pub mod KeptLaws
pub mod KindLaws
pub mod Larger
pub mod LastLaws
pub mod LeafLaws
mod MadeLaws
pub mod Nodes
pub mod RangeLaws
pub mod Runs
pub mod Seen
pub mod StepLaws
pub mod Stops
pub mod SumLaws
mod ToldLaws
pub mod Turning
pub mod TurnLaws
pub mod Written
