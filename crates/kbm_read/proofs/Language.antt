-- THE THEOREMS OF MAPPING FILES (document 01, "What the contracts settle", demand 3): given room, a text is accepted exactly when
-- it is in the language, with its one reading; and it is refused exactly for its earliest fault. Assumes nothing.
use Rattle.std.specs.Prelude.{ℤ}
use Rattle.std.specs.Prelude.{Option}
use mathlib.Core.Path.{◌≡◌, refl, sym, ◌∙◌, ap}
use mathlib.Core.List.{List}
use mathlib.Core.Logic.{◌↔◌}
use Prim.Native.Nat.{ℕ, ◌+◌, ◌≤◌}
use native.Mathlib.Omega.{arith}
use lib.ListN.{length}
use Rattle.base.specs.Said.{gives, refuses}
use Rattle.base.proofs.Said.{same_value, same_refuses}
use Rattle.kbm.specs.declared.Kbm.{Kbm}
use Rattle.listing.proofs.Language.{Good, at_start, accepts_good}
use Rattle.listing.proofs.Language as listing
use Rattle.listing.proofs.Walks.{head_from, walk_on}
use Rattle.text.proofs.LineLanguage.{strict_text, one_strict_text}
use Rattle.text.specs.ReadLine.{said_in}
use Rattle.text.specs.Reading.{Meaning}
use Rattle.kbm_read.specs.Language.{required, Values, Begins, mapping, size_of, MappingText, WrongEnd, FaultText}
use Rattle.kbm_read.specs.Reader.{unread, read_of, given_from, given_in, entries_in}
use Rattle.kbm_read.proofs.Ends.{length_added, small_size, given_is, end_gives, gives_end, end_wrong, wrong_end}
use Rattle.kbm_read.proofs.Stands.{reads, finish_on, same_walk}

-- the end, judged of lines of the language
module _ (room : ℕ) (ms : List Meaning) (vs : Values required) (es : List (Option ℤ)) (b : Begins ms required vs es) (f : length es ≤ room) where
  ends_wrong : (n d : ℕ) → finish_on room (head_from mapping reads required unread.head vs) es ≡ refuses n d → (d ≡ 0) × WrongEnd room (size_of vs) es n
  ends_wrong n d e = end_wrong room (head_from mapping reads required unread.head vs) es f (small_size b) e

  wrong_ends : (n : ℕ) → WrongEnd room (size_of vs) es n → finish_on room (head_from mapping reads required unread.head vs) es ≡ refuses n 0
  wrong_ends n w = wrong_end room (head_from mapping reads required unread.head vs) es f (small_size b) n w

-- the entries of a text of the language are those that its lines give
pub given_in_law : {s : List ℕ} {k : Kbm} {es : List (Option ℤ)} (t : MappingText s k es) → given_in s ≡ t.given
given_in_law {s} t = ap (given_from 7) (one_strict_text s t.says t.text) ∙ given_is t.lines

module _ (room : ℕ) (s : List ℕ) where
  abbrev Accepts : Kbm → Type 0
  Accepts = Good mapping reads (finish_on room) room unread.head (said_in s)

  good_text : (x : Kbm) → Accepts x → MappingText s x (entries_in x.count s) × (x.count ≤ room)
  good_text x g =
      let a = end_gives room (head_from mapping reads required unread.head g.vs) g.es g.is in
      let c : size_of g.vs ≡ x.count = ap (λ k. k.count) a.is in (
        record {
          says = said_in s;
          text = strict_text s;
          values = g.vs;
          given = g.es;
          lines = g.lines;
          not_large = omega (arith, length_added (size_of g.vs) g.es, a.not_more, small_size g.lines);
          consistent = a.not_more;
          mapping = sym a.is;
          entries = rw (given_is g.lines, sym c);
        },
        omega (arith, a.room_for),
      )

  text_good : {x : Kbm} {es : List (Option ℤ)} (t : MappingText s x es) → length es ≤ room → Accepts x
  text_good {x} {es} t f =
      let n = length_added (size_of t.values) t.given in
      let all = ap length t.entries in
      let h = head_from mapping reads required unread.head t.values in
      record {
        vs = t.values;
        es = t.given;
        lines = rw (one_strict_text s t.says t.text) t.lines;
        fits = omega (arith, all, n);
        is = gives_end room h t.given (omega (arith, all, n, t.consistent)) (omega (arith, n, t.not_large)) t.consistent ∙ ap gives (sym t.mapping);
      }

  -- an accepted text is in the language, with this reading, and there is room
  pub accepted : (x : Kbm) → read_of room s ≡ gives x → MappingText s x (entries_in x.count s) × (x.count ≤ room)
  accepted x e = good_text x ((accepts_good mapping reads (finish_on room) room unread.head refl (said_in s) x).0 (sym (same_walk room (said_in s)) ∙ e))

  -- a text of the language is accepted, given room
  pub in_language : {x : Kbm} {es : List (Option ℤ)} → MappingText s x es → length es ≤ room → read_of room s ≡ gives x
  in_language {x} t f = same_walk room (said_in s) ∙ (accepts_good mapping reads (finish_on room) room unread.head refl (said_in s) x).1 (text_good t f)

  -- ACCEPTED EXACTLY WHEN IN THE LANGUAGE, with this one reading: "acceptance and the one reading"
  pub accepts : (x : Kbm) (es : List (Option ℤ)) → ((read_of room s ≡ gives x) × (entries_in x.count s ≡ es)) ↔ (MappingText s x es × (length es ≤ room))
  accepts x es = (forth, back)
    where
      forth : (read_of room s ≡ gives x) × (entries_in x.count s ≡ es) → MappingText s x es × (length es ≤ room)
      forth r =
          let a = accepted x r.0 in
          let t = a.0 in
          let top : x.count ≡ size_of t.values = ap (λ k. k.count) t.mapping in
          (rw r.1 at t, omega (arith, ap length r.1, ap length t.entries, length_added (size_of t.values) t.given, t.consistent, a.1))

      back : MappingText s x es × (length es ≤ room) → (read_of room s ≡ gives x) × (entries_in x.count s ≡ es)
      back u =
          let t = u.0 in
          let top : x.count ≡ size_of t.values = ap (λ k. k.count) t.mapping in
          (in_language t u.1, rw (given_in_law t, top) (sym t.entries))

  -- REFUSED EXACTLY FOR THE EARLIEST FAULT: number and detail are the fault's
  pub refuses_fault : (n d : ℕ) → (read_of room s ≡ refuses n d) ↔ FaultText room s n d
  refuses_fault n d = (forth, back)
    where
      forth : read_of room s ≡ refuses n d → FaultText room s n d
      forth e = record {
        says = said_in s;
        text = strict_text s;
        fault = (listing.refuses_fault mapping reads (finish_on room) room unread.head refl (λ vs es c. WrongEnd room (size_of vs) es c) (ends_wrong room) (wrong_ends room) (said_in s) n d).0 (sym (same_walk room (said_in s)) ∙ e);
      }

      back : FaultText room s n d → read_of room s ≡ refuses n d
      back t =
          same_walk room (said_in s) ∙ ap (walk_on mapping reads (finish_on room) room 1 (at_start mapping reads unread.head)) (one_strict_text s t.says t.text) ∙
          (listing.refuses_fault mapping reads (finish_on room) room unread.head refl (λ vs es c. WrongEnd room (size_of vs) es c) (ends_wrong room) (wrong_ends room) t.says n d).1 t.fault

-- ONE READING: a text is a mapping file of one mapping and one list of entries
pub one_reading : (s : List ℕ) (x y : Kbm) (es fs : List (Option ℤ)) → MappingText s x es → MappingText s y fs → (x ≡ y) × (es ≡ fs)
one_reading s x y es fs t u =
    let a = (accepts (length es + length fs) s x es).1 (t, omega arith) in
    let b = (accepts (length es + length fs) s y fs).1 (u, omega arith) in
    let k : x ≡ y = same_value x y (sym a.0 ∙ b.0) in
    (k, sym a.1 ∙ ap (λ z. entries_in z.count s) k ∙ b.1)

-- ONE EARLIEST FAULT: number and detail are one
pub one_fault : (room : ℕ) (s : List ℕ) (m n c d : ℕ) → FaultText room s m c → FaultText room s n d → (m ≡ n) × (c ≡ d)
one_fault room s m n c d t u = same_refuses (sym ((refuses_fault room s m c).1 t) ∙ (refuses_fault room s n d).1 u)
