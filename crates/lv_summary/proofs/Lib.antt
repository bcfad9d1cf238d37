-- Names the files of lemmas of `lv_summary`.
pub mod AgreesLaws
mod ByNumber
mod Changes
mod ChildLaws
pub mod FoldableLaws
mod Growth
mod LateLaws
mod LevelLaws
mod NodeRows
mod NumberLaws
pub mod PushedLaws
mod RunLaws
mod Runs
pub mod TableLaws
