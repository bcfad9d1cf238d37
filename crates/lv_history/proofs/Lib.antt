-- Names the files of lemmas of `lv_history`.
mod PermitLaws
pub mod PrefixLaws
mod StepLaws
