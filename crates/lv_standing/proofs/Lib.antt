-- Names the files of lemmas of `lv_standing`.
pub mod AskableLaws
pub mod BesideLaws
pub mod EditLaws
mod NameLaws
pub mod QueryLaws
pub mod QuerySetLaws
pub mod RangeLaws
mod RoomLaws
pub mod TellLaws
mod UnaskedLaws
