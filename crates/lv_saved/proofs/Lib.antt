-- Names the files of lemmas of `lv_saved`.
pub mod AloneLaws
pub mod NumberLaws
pub mod PieceLaws
pub mod ReadLaws
pub mod RiseLaws
pub mod ShortLaws
