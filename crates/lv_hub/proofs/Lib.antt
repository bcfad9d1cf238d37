-- Names the files of lemmas of `lv_hub`.
mod AcceptedLaws
mod AsScriptsLaws
mod AskingLaws
mod BeginLaws
mod DeskLaws
mod HeldLaws
pub mod LogLaws
mod NoticeLaws
pub mod Noticed
mod OrderLaws
pub mod PlainSessionLaws
mod RefusedQuestions
mod RenewalLaws
mod SessionLaws
mod StretchLaws
mod SubscriberLaws
mod ToldLaws
pub mod TruthLaws
pub mod WatchedLaws
mod WorkLaws
