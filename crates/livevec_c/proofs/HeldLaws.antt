-- Something that has a series, with the trees of some kinds.
use Rattle.std.proofs.Common.{◌≡◌, ℕ, ◌+◌, ◌<◌, true, false, [], ◌∷◌, Result, Ok, Err, OnErr, OnOk, List, fold, get_or, take, sym, ap, ◌∙◌, true≢false}
use Rattle.std.specs.Prelude.{is_err}
use Rattle.std.proofs.lemmas.List.{take_more}
use Rattle.std.proofs.lemmas.List.Sums.{fold_push}
use Rattle.lv_bodies.specs.declared.kinds.Kind.{Kind}
use Rattle.lv_bodies.specs.declared.kinds.Kind.TheVariants.{Sum, Least, Greatest, Best, Affine, Automaton}
use Rattle.lv_series.specs.Series.{with_kind}
use Rattle.livevec_c.specs.SeriesHeld.{Long}

-- a series in which some kinds have a tree, in addition to those that had one
abbrev pub with_trees : List Kind → Long → Long
with_trees kinds s = record s { kinds = fold (λ kept kind. with_kind kind kept) s.kinds kinds }

abbrev pub each_kind : List Kind
each_kind = Sum ∷ Least ∷ Greatest ∷ Best ∷ Affine ∷ Automaton ∷ []

-- what a call did, by whether it was refused
pub done_at : {T E P : Type 0} (r : Result T E) → is_err r ≡ false → OnOk r P → P
done_at (Ok x) free done = done
done_at (Err e) free done = absurd (true≢false free)

pub same_at : {T E P : Type 0} (r : Result T E) → is_err r ≡ true → OnErr r P → P
same_at (Ok x) refused same = absurd (true≢false (sym refused))
same_at (Err e) refused same = same

module _ {H : Type 0} (series_of : H → Long) (with_series : Long → H → H) (given_series : (s : Long) (h : H) → series_of (with_series s h) ≡ s) (last_series : (s t : Long) (h : H) → with_series s (with_series t h) ≡ with_series s h) where
  -- the tree of one kind more
  pub one_tree_more : (i : ℕ) (d : Kind) (old mid new : H) → i < 6 → mid ≡ with_series (with_trees (take i each_kind) (series_of old)) old → new ≡ with_series (record (series_of mid) { kinds = with_kind (get_or each_kind i d) (series_of mid).kinds }) mid
      → new ≡ with_series (with_trees (take (i + 1) each_kind) (series_of old)) old
  one_tree_more i d old mid new few before is =
      let s = series_of old in
      let kinds = take i each_kind in
      let kind = get_or each_kind i d in
      let t = with_trees kinds s in
      let more : Long = record t { kinds = with_kind kind t.kinds } in
      let has : series_of mid ≡ t = ap series_of before ∙ given_series t old in
      is
      ∙ ap (λ u. with_series (record u { kinds = with_kind kind u.kinds }) mid) has
      ∙ ap (with_series more) before
      ∙ last_series more t old
      ∙ ap (λ kept. with_series (record s { kinds = kept }) old) (sym (fold_push (λ kept k. with_kind k kept) s.kinds kinds kind))
      ∙ ap (λ ks. with_series (with_trees ks s) old) (sym (take_more each_kind i d few))
