-- What a search in a series answers, from what making the tree of its kind and looking gave.
use Rattle.std.proofs.Common.{◌≡◌, ℕ, inl, sym, subst, ap, ◌∙◌}
use Rattle.lv_bodies.specs.declared.kinds.Kind.{Kind}
use Rattle.lv_series.specs.Places.{IsSearchable}
use Rattle.lv_series.specs.Series.{range_refused, with_kind}
use Rattle.livevec_c.specs.declared.series_found.SeriesFound.{SeriesFound}
use Rattle.livevec_c.specs.declared.wanted.Wanted.{Wanted}
use Rattle.livevec_c.specs.SeriesFound.{FindsAt, FindsSeries, FindsUnless}
use Rattle.livevec_c.specs.SeriesHeld.{Long}
use Rattle.livevec_c.specs.Wanted.{kind_sought}

-- the kind has a tree now, and the elements and edits are those of before
pub search_told : (wanted : Wanted) (kind : Kind) (lo hi : ℕ) (told : SeriesFound) (old new now : Long) → kind ≡ kind_sought wanted → new ≡ record old { kinds = with_kind kind old.kinds } → now ≡ new → IsSearchable new kind lo hi → FindsAt wanted now.held lo hi now.edits told → FindsSeries wanted lo hi told old (record old { kinds = with_kind kind old.kinds })
search_told wanted kind lo hi told old new now by is stays searchable finds =
    let after = record old { kinds = with_kind kind old.kinds } in
    subst (λ r. FindsUnless r wanted lo hi told old after) (sym (ap (λ (s : Long). range_refused s.held lo hi) (sym is) ∙ searchable.granted))
    (inl (subst (λ (s : Long). FindsAt wanted s.held lo hi s.edits told) (stays ∙ is) finds, ap (λ k. record old { kinds = with_kind k old.kinds }) by))
