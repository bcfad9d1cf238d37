-- Names the files of lemmas of `lv_refresh`.
mod ClaimLaws
mod ComputeLaws
mod GatherLaws
mod HintLaws
mod JoinLaws
mod MarkLaws
mod NextLaws
mod OverLaws
mod PickLaws
mod RowLaws
mod SubtreeFolds
mod SubtreeHints
mod SubtreeTables
mod SweepLaws
mod TurnLaws
pub mod HonestyLaws
pub mod RecordLaws
pub mod WantLaws
