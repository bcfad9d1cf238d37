-- Proof of `from_word`: the bytes from the first word on, or nothing if there are no words.
use Rattle.std.proofs.Common.{◌≡◌, drop, sym, ap, ◌∙◌, rules, tests}
use Rattle.std.proofs.lemmas.Iterator.{YieldsList-from_slice}
use Rattle.std.proofs.lemmas.Iterator.Search.{position_from_yields_List}
use Rattle.lv_lines.proofs.CutWords.{from_first, in_word, no_words, search_of, none_found, place_found}
use Rattle.lv_lines.proofs.words.from_word.Goals as goal

pub returns-in_err-start : goal.returns-in_err-start
returns-in_err-start c =
    let bytes = c.args.bytes.now in
    let found : c.position.result ≡ search_of in_word bytes = position_from_yields_List in_word _ _ c.position.result c.position.ensures.ran (YieldsList-from_slice bytes cc) (λ x b q k. search (rules, tests)) in
    rw c.from_residual.ensures (no_words bytes (none_found in_word bytes _ found c.in_err-start.was))

pub returns : goal.returns
returns c =
    let bytes = c.args.bytes.now in
    let found : c.position.result ≡ search_of in_word bytes = position_from_yields_List in_word _ _ c.position.result c.position.ensures.ran (YieldsList-from_slice bytes cc) (λ x b q k. search (rules, tests)) in
    let start = place_found in_word bytes _ _ found c.in_ok-start.was in
    from_first bytes c.split_at.result.1.now start.0 (c.split_at.ensures.back ∙ ap (λ n. drop n bytes) (sym start.1))
