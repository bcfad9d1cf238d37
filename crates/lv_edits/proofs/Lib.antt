-- Names the files of lemmas of `lv_edits`.
pub mod BatchLaws
pub mod CapacityLaws
pub mod HistoryLaws
pub mod HoldsLaws
pub mod HoldsPushes
pub mod HoldsWrites
mod LogWalks
pub mod TouchLaws
pub mod PushLaws
pub mod RunLaws
pub mod Slices
