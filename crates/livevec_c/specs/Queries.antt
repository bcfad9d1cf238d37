-- A set of standing queries: its questions in the order in which they were named, and the answer of each that counts as reported.
use Rattle.std.specs.Prelude.{ℕ, Option, List, [], ◌∷◌, ◌++◌}
use Rattle.std.specs.List.{remove}
use Rattle.lv_geometry.specs.declared.refusals.Refusal.{Refusal}
use Rattle.lv_bodies.specs.Plain.{plain_value}
use Rattle.lv_bodies.specs.declared.kinds.Shown.{Shown}
use Rattle.lv_standing.specs.QuerySets.{place_of as place_by, refusal_of}
use Rattle.lv_standing.specs.declared.questions.Terms.{Terms}
use Rattle.lv_script.specs.SampleQueries.{terms_of as sample_terms}
use Rattle.livevec_c.specs.declared.set_queries.SetQuery.{SetQuery}

-- what a set sees of a question
abbrev pub terms_of : SetQuery → Terms
terms_of q = sample_terms q.query

-- why a set refuses a query, other than out of memory; it has at most 64
abbrev pub question_refusal : List SetQuery → SetQuery → Option Refusal
question_refusal queries q = refusal_of terms_of 64 queries q

-- the answer of a question that counts as reported before its first note: that of no elements
abbrev pub untold : SetQuery → Shown
untold q = plain_value q.query.kind []

-- a set: its questions in the order in which they were named, and the answer of each that counts as reported
pub record QueriesState : Type 0 where
  pub questions : List SetQuery
  pub told : List Shown

-- a set with one more question, of whose answer nothing was reported yet
abbrev pub with_question : QueriesState → SetQuery → QueriesState
with_question s q = record { questions = s.questions ++ q ∷ []; told = s.told ++ untold q ∷ [] }

-- the place of the question of a name, if there is one
abbrev pub place_of : List SetQuery → List ℕ → Option ℕ
place_of questions name = place_by terms_of questions name

-- a set without the question at a place; the others keep their order, and the answers that count as reported
abbrev pub without_place : QueriesState → ℕ → QueriesState
without_place s at = record { questions = remove s.questions at; told = remove s.told at }
