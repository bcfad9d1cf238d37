-- Names the files of definitions of `lv_vector`.
pub use Rattle.lv_bodies.specs.Plain
pub use Rattle.lv_bodies.specs.Sums
pub use Rattle.lv_bodies.specs.SumLaws
pub use Rattle.lv_reduce.specs.Answer
pub use Rattle.lv_refresh.specs.Record
pub use Rattle.lv_live.specs.State
pub use Rattle.lv_live.specs.Step
pub use Rattle.lv_geometry.specs.declared.refusals.Refusal
pub use Rattle.lv_reduce.specs.declared.reductions.Answer as AnswerType
pub use Rattle.lv_geometry.specs.Bounds
pub use Rattle.lv_bodies.specs.declared.kinds.Shown
pub use Rattle.lv_edits.specs.declared.edit.Edit
pub use Rattle.lv_edits.specs.History
pub use Rattle.lv_edits.specs.Ranges
pub use Rattle.lv_standing.specs.declared.notes.Note
pub use Rattle.lv_standing.specs.Queries
pub use Rattle.lv_standing.specs.declared.queries.Query
pub use Rattle.lv_standing.proofs.QueryLaws
pub use Rattle.lv_hub.specs.declared.told.Told as ToldType
pub use Rattle.lv_hub.specs.Counting
pub use Rattle.lv_hub.specs.Notes
pub use Rattle.lv_hub.specs.Renewing
pub use Rattle.lv_hub.specs.Told as Hub
pub use Rattle.lv_series.specs.Plain as PlainSeries
pub use Rattle.lv_series.specs.Series
pub use Rattle.lv_series.specs.Batches as SeriesBatches
pub use Rattle.lv_tree.specs.KindSummaries
pub use Rattle.lv_tree.specs.declared.kind_summaries.KindSummary
pub use Rattle.lv_transcript.specs.Transcript
pub use Rattle.lv_transcript.specs.Fronts
pub use Rattle.lv_transcript.specs.Audits
pub use Rattle.lv_transcript.specs.Transcribing
pub use Rattle.lv_transcript.specs.ReadTexts
pub use Rattle.lv_transcript.specs.PutTexts
pub use Rattle.lv_transcript.specs.FlatEdits
