-- Texts that are put into a buffer, and sent, one after the other.
use Rattle.std.proofs.Common.{◌≡◌, ℕ, List, [], ◌++◌, Option, sym, ap, ◌∙◌, append_assoc, append-nil}
use Rattle.std.proofs.KnownBytes.{Appends-kept, Appends-nil, Appends-trans}
use Rattle.std.specs.Io.KnownBytes.{Appends, Keeps}
use Rattle.lv_lines.specs.Output.{Writes, WritesFront}

-- nothing was put, and nothing sent
pub Writes-nil : (contents : Option (List ℕ)) (held : List ℕ) → Writes contents held contents held []
Writes-nil contents held = record { sent = []; appended = Appends-nil contents; all = append-nil held }

-- a text was put after what was held
pub Writes-put : (contents : Option (List ℕ)) (old new text : List ℕ) → new ≡ old ++ text → Writes contents old contents new text
Writes-put contents old new text put = record { sent = []; appended = Appends-nil contents; all = sym put }

-- what was held was sent
pub Writes-sent : (old_contents new_contents : Option (List ℕ)) (old_held new_held : List ℕ) → (new_held ≡ []) × Appends old_contents new_contents old_held
    → Writes old_contents old_held new_contents new_held []
Writes-sent old_contents new_contents old_held new_held sent = record {
  sent = old_held;
  appended = sent.1;
  all = ap (λ (xs : List ℕ). old_held ++ xs) (sym sent.0);
}

-- more of what was held was sent
pub Writes-sent_more : {a b c : Option (List ℕ)} {h k l : List ℕ} (front : List ℕ) → Writes a h b k [] → Appends b c front → k ≡ front ++ l → Writes a h c l []
Writes-sent_more {a} {b} {c} {h} {k} {l} front w sent cut = record {
  sent = w.sent ++ front;
  appended = Appends-trans a b c w.sent front w.appended sent;
  all = w.all ∙ ap (λ (xs : List ℕ). w.sent ++ xs) cut ∙ sym (append_assoc w.sent front l);
}

-- and then no more
pub Writes-kept : {a b c : Option (List ℕ)} {h k : List ℕ} → Writes a h b k [] → Keeps b c → Writes a h c k []
Writes-kept {a} {b} {c} w kept = record { sent = w.sent; appended = Appends-kept a b c w.sent w.appended kept; all = w.all }

-- all that was held was sent, and then no more
pub Writes-flushed : (a b c : Option (List ℕ)) {h k : List ℕ} → Writes a h b k [] → k ≡ [] → Keeps b c → Appends a c h
Writes-flushed a b c {h} {k} w none kept =
    rw (sym (append-nil h) ∙ w.all ∙ ap (λ (xs : List ℕ). w.sent ++ xs) none ∙ append-nil w.sent) (Appends-kept a b c w.sent w.appended kept)

-- all that was written was sent, if nothing was held at the start and nothing is now
pub Writes-all : (old_contents new_contents : Option (List ℕ)) (text : List ℕ) → Writes old_contents [] new_contents [] text → Appends old_contents new_contents text
Writes-all old_contents new_contents text w = rw (w.all ∙ append-nil w.sent) w.appended

-- one text after another
pub Writes-trans : {a b c : Option (List ℕ)} {h k l t u : List ℕ} → Writes a h b k t → Writes b k c l u → Writes a h c l (t ++ u)
Writes-trans {a} {b} {c} {h} {k} {l} {t} {u} v w = record {
  sent = v.sent ++ w.sent;
  appended = Appends-trans a b c v.sent w.sent v.appended w.appended;
  all = sym (append_assoc h t u) ∙ ap (λ (xs : List ℕ). xs ++ u) v.all ∙ append_assoc v.sent k u ∙ ap (λ (xs : List ℕ). v.sent ++ xs) w.all ∙ sym (append_assoc v.sent w.sent l);
}

-- a text, and a prefix of another
pub WritesFront-after : {a b c : Option (List ℕ)} {h k t u : List ℕ} → Writes a h b k t → WritesFront b k c u → WritesFront a h c (t ++ u)
WritesFront-after v w = record { unsent = w.unsent; written = Writes-trans v w.written }

-- a prefix of a text is a prefix of a longer one
pub WritesFront-longer : {a b : Option (List ℕ)} {h t : List ℕ} (more : List ℕ) → WritesFront a h b t → WritesFront a h b (t ++ more)
WritesFront-longer {a} {b} {h} {t} more w = record {
  unsent = w.unsent ++ more;
  written = record {
    sent = w.written.sent;
    appended = w.written.appended;
    all = sym (append_assoc h t more) ∙ ap (λ (xs : List ℕ). xs ++ more) w.written.all ∙ append_assoc w.written.sent w.unsent more;
  };
}
