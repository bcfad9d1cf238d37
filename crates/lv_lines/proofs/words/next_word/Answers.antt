-- Proof of `next_word`: the first word and the bytes after it, or nothing if there are no words.
use Rattle.std.proofs.Common.{◌≡◌, drop, sym, ap, ◌∙◌, rules, tests}
use Rattle.std.proofs.lemmas.Iterator.{YieldsList-from_slice}
use Rattle.std.proofs.lemmas.Iterator.Search.{position_from_yields_List}
use Rattle.std.specs.List.{position_or_len}
use Rattle.lv_lines.specs.Words.{is_space}
use Rattle.lv_lines.proofs.CutWords.{in_word, no_words, some_word, first_and_rest, search_of, none_found, place_found, first_or_end}
use Rattle.lv_lines.proofs.words.next_word.Goals as goal

pub returns-in_err-start : goal.returns-in_err-start
returns-in_err-start c =
    let bytes = c.args.bytes.now in
    let found : c.position.result ≡ search_of in_word bytes = position_from_yields_List in_word _ _ c.position.result c.position.ensures.ran (YieldsList-from_slice bytes cc) (λ x b q k. search (rules, tests)) in
    rw c.from_residual.ensures (no_words bytes (none_found in_word bytes _ found c.in_err-start.was))

pub returns : goal.returns
returns c =
    let bytes = c.args.bytes.now in
    let rest = c.split_at.result.1.now in
    let found : c.position.result ≡ search_of in_word bytes = position_from_yields_List in_word _ _ c.position.result c.position.ensures.ran (YieldsList-from_slice bytes cc) (λ x b q k. search (rules, tests)) in
    let ends : c.position-2.result ≡ search_of is_space rest = position_from_yields_List is_space _ _ c.position-2.result c.position-2.ensures.ran (YieldsList-from_slice rest cc) (λ x b q k. search (rules, tests)) in
    let start = place_found in_word bytes _ _ found c.in_ok-start.was in
    let end = c.unwrap_or-end.ensures ∙ first_or_end is_space rest _ ends in
    let skipped : rest ≡ drop (position_or_len in_word bytes) bytes = c.split_at.ensures.back ∙ ap (λ n. drop n bytes) (sym start.1) in
    rw (c.split_at-2.ensures.front, c.split_at-2.ensures.back, end)
    (some_word bytes start.0 ∙ ap first_and_rest (sym skipped))
