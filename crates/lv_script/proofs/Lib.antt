-- Names the files of lemmas of `lv_script`.
pub mod InterpreterLaws
pub mod OneLineLaws
pub mod OneTextLaws
pub mod PlainRunLaws
pub mod PlainStepLaws
pub mod WholeLaws
pub mod ScanLemmas
pub mod BoundedLaws
pub mod EventLaws
pub mod Playing
pub mod RestoredLaws
mod FoundLaws
mod KnownLaws
mod LongShown
pub mod Notes
mod SearchedLaws
mod SampleAnswerLaws
mod ValueLaws
mod WholeSeriesLaws
