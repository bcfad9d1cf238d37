-- Kinds that no query is of are left as they were by an edit, and by the questions that queries ask after it.
use Rattle.std.proofs.Common.{◌≡◌, ◌≢◌, ◌<◌, ℕ, List, get_or, length, inl, inr, refl, sym, subst, ◌∙◌}
use Rattle.std.proofs.lemmas.List.Elements.{All-get_or}
use Rattle.lv_bodies.specs.declared.kinds.Kind.{Kind}
use Rattle.lv_edits.specs.declared.edit.Edit.{Edit}
use Rattle.lv_tree.specs.Kinds.{IsLeftOrFollows, KindsState, LeavesAll, LeavesOrFollows, LeavesOthers, blocks_of, followed_by}
use Rattle.lv_tree.proofs.KeptLaws.{LeavesOrFollows-same}
use Rattle.lv_standing.specs.declared.queries.Query.{Query}
use Rattle.lv_standing.specs.Standings.{IsUnasked, LeavesOrFollowsUnasked, LeavesUnasked}

-- a kind that no query is of is another than that of the query at a place
apart_from : (queries : List Query) (i : ℕ) (q : Query) (k : Kind) → i < length queries → q ≡ get_or queries i q → IsUnasked queries k → k ≢ q.kind
apart_from queries i q k inside at unasked is = subst (λ (p : Query). p.kind ≢ k) (sym at) (All-get_or (λ (p : Query). p.kind ≢ k) queries i q inside unasked) (sym is)

-- `LeavesUnasked` holds if nothing changes
pub LeavesUnasked-same : (queries : List Query) (s : KindsState) → LeavesUnasked queries s s
LeavesUnasked-same queries s = record { table = refl; followed = λ k unasked. refl; blocks = λ k unasked. refl; room = λ size room. room }

-- a kind that was left is left then, or follows all edits
left_or_follows : (edits : List Edit) (queries : List Query) (old mid new : KindsState) (k : Kind) → followed_by mid k ≡ followed_by old k → blocks_of mid k ≡ blocks_of old k → IsLeftOrFollows edits k mid new → IsLeftOrFollows edits k old new
left_or_follows edits queries old mid new k followed blocks (inl same) = inl (same.0 ∙ followed, same.1 ∙ blocks)
left_or_follows edits queries old mid new k followed blocks (inr all) = inr all

-- room may be made, and an edit be followed, before
pub LeavesUnasked-after : (queries : List Query) (old mid new : KindsState) → LeavesAll old mid → LeavesUnasked queries mid new → LeavesUnasked queries old new
LeavesUnasked-after queries old mid new first second = record {
  table = second.table ∙ first.table;
  followed = λ k unasked. second.followed k unasked ∙ first.followed k;
  blocks = λ k unasked. second.blocks k unasked ∙ first.blocks k;
  room = λ size room. second.room size (first.room size room);
}

-- kinds may follow all edits then
pub LeavesUnasked-follows : (edits : List Edit) (queries : List Query) (old mid new : KindsState) → LeavesUnasked queries old mid → LeavesOrFollows edits mid new → LeavesOrFollowsUnasked edits queries old new
LeavesUnasked-follows edits queries old mid new first second = record {
  table = second.table ∙ first.table;
  followed = λ k unasked. left_or_follows edits queries old mid new k (first.followed k unasked) (first.blocks k unasked) (second.followed k);
  room = λ size room. second.room size (first.room size room);
}

-- or be left
pub LeavesUnasked-left : (edits : List Edit) (queries : List Query) (old new : KindsState) → LeavesUnasked queries old new → LeavesOrFollowsUnasked edits queries old new
LeavesUnasked-left edits queries old new left = LeavesUnasked-follows edits queries old new new left (LeavesOrFollows-same edits new)

-- the query at a place may be asked
pub LeavesUnasked-asked : (queries : List Query) (i : ℕ) (q : Query) (old new : KindsState) → i < length queries → q ≡ get_or queries i q → LeavesOthers q.kind old new → LeavesUnasked queries old new
LeavesUnasked-asked queries i q old new inside at others = record {
  table = others.table;
  followed = λ k unasked. others.followed k (apart_from queries i q k inside at unasked);
  blocks = λ k unasked. others.blocks k (apart_from queries i q k inside at unasked);
  room = others.room;
}

-- and another one then
pub LeavesUnasked-trans : (queries : List Query) (old mid new : KindsState) → LeavesUnasked queries old mid → LeavesUnasked queries mid new → LeavesUnasked queries old new
LeavesUnasked-trans queries old mid new first second = record {
  table = second.table ∙ first.table;
  followed = λ k unasked. second.followed k unasked ∙ first.followed k unasked;
  blocks = λ k unasked. second.blocks k unasked ∙ first.blocks k unasked;
  room = λ size room. second.room size (first.room size room);
}
