-- Bytes of a log on their way to its file.
use Rattle.std.proofs.Common.{◌≡◌, ℕ, ◌+◌, ◌≤◌, List, [], ◌++◌, drop, length, take, Option, refl, sym, ap, ◌∙◌, append_assoc}
use Rattle.std.proofs.KnownBytes.{Appends-nil, Appends-trans}
use Rattle.std.proofs.lemmas.List.{drop-append-le, drop-drop, take-append-drop}
use Rattle.std.specs.Io.KnownBytes.{Appends}
use Rattle.lv_shards.specs.Bytes.{checksum_from}
use Rattle.lv_transcript.specs.Seals.{sealed_behind}
use Rattle.lv_files.specs.Sealing.{Seals, Sends}

-- nothing went to the file
pub sends_none : (held : List ℕ) (contents : Option (List ℕ)) → Sends held held contents contents
sends_none held contents = record { sent = []; appended = Appends-nil contents; all = refl }

-- some bytes more went there
pub sends_more : (first held bytes : List ℕ) (sent count : ℕ) (a b c : Option (List ℕ)) → Sends first (drop sent held) a b → bytes ≡ drop sent held → Appends b c (take count bytes) → Sends first (drop (sent + count) held) a c
sends_more first held bytes sent count a b c s is more =
    let rest = drop sent held in
    let parts : rest ≡ take count rest ++ drop (sent + count) held =
    sym (take-append-drop count rest) ∙ ap (λ (bs : List ℕ). take count rest ++ bs) (drop-drop count sent held) in
    record {
      sent = s.sent ++ take count rest;
      appended = Appends-trans a b c s.sent (take count rest) s.appended (rw is at more);
      all = s.all ∙ ap (λ (bs : List ℕ). s.sent ++ bs) parts ∙ sym (append_assoc s.sent (take count rest) (drop (sent + count) held));
    }

-- a text was put after what is held
pub seals_put : (hash count : ℕ) (text first held new : List ℕ) (sent h h_new : ℕ) (a b : Option (List ℕ)) → Sends first (drop sent held) a b → sent ≤ length held → h ≡ hash → new ≡ held ++ sealed_behind h count text
    → h_new ≡ checksum_from h (sealed_behind h count text) → Seals hash count text first (drop sent new) h_new a b
seals_put hash count text first held new sent h h_new a b s within same new_is h_is =
    let part = sealed_behind hash count text in
    let put : new ≡ held ++ part = new_is ∙ ap (λ (k : ℕ). held ++ sealed_behind k count text) same in
    let left : drop sent new ≡ drop sent held ++ part = ap (drop sent) put ∙ drop-append-le sent held part within in
    record {
      sent = s.sent;
      appended = s.appended;
      all = ap (λ (bs : List ℕ). bs ++ part) s.all ∙ append_assoc s.sent (drop sent held) part ∙ ap (λ (bs : List ℕ). s.sent ++ bs) (sym left);
      hash_is = h_is ∙ ap (λ (k : ℕ). checksum_from k (sealed_behind k count text)) same;
    }
