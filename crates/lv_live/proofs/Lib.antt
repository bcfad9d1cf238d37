-- Names the files of lemmas of `lv_live`.
pub mod BatchLaws
pub mod DeliverLaws
pub mod EditLaws
pub mod EveryRunLaws
pub mod HonestCalls
pub mod HonestSteps
pub mod LiveLaws
pub mod OneOutcomeLaws
pub mod PlayLaws
pub mod PushedLaws
pub mod QueryLaws
mod RefreshLaws
mod RememberLaws
pub mod RunLaws
mod SubtreeElements
mod SubtreeLaws
mod TurnLaws
pub mod VouchLaws
pub mod WorldLaws
pub mod WrittenLaws
