-- The reader's walk is the walk of the format: its state stands to a place by what is due, what was said, and how many entries were
-- given. Assumes nothing.
use Rattle.std.specs.Prelude.{None, Some, Option, Ok, Err, Result}
use mathlib.Core.Path.{◌≡◌, refl, sym, ◌∙◌, ap}
use mathlib.Core.Bool.{Bool, true, false}
use mathlib.Core.List.{List, [], ◌∷◌, ◌++◌}
use Prim.Native.Nat.{ℕ, ◌+◌, ◌^◌}
use native.Mathlib.Omega.{arith}
use lib.Dec.{leb, ltb}
use lib.Ieee.{Float}
use lib.IntN.{ℤ, pos, nat_abs, ◌+ℤ◌}
use lib.ListN.{length, length-append}
use lib.Signed.{le_z}
use Rattle.base.specs.Numbers.{int_value, line_missing, float_value, keyboard_mapping, unusable, overflow, no_room, too_large, inconsistent_count, backwards_range}
use Rattle.base.specs.Said.{Said, gives, refuses, pick, and_then}
use Rattle.floats.specs.Ranges.{in_pitch}
use Rattle.kbm.specs.declared.Kbm.{Kbm}
use Rattle.decimals.specs.Answers.{says_decimal}
use Rattle.decimals.specs.DecimalScan.{read_decimal}
use Rattle.integers.specs.AtLine.{int_at}
use Rattle.integers.specs.Integer.{Int, value, none, read_int}
use Rattle.decimals.specs.declared.DecimalError.{DecimalError}
use Rattle.decimals.specs.declared.DecimalError.TheVariants as decimal
use Rattle.listing.proofs.Given.{Alike}
use Rattle.listing.proofs.Given as walks
use Rattle.listing.proofs.Language.{at_start}
use Rattle.listing.proofs.Walks.{Reads, Place, placed, word_on, step_on, end_on, walk_on}
use Rattle.text.specs.Reading.{Meaning, invalid, blank, comment, content}
use Rattle.kbm_read.specs.Language.{Required, Value, required, see, mapping}
use Rattle.kbm_read.specs.Reader.{goes_on, entry_placed, entry_in, take_due, take_token, take_meaning, which_of, mapping_of, finished, unread, walk}
use Rattle.kbm_read.specs.declared.line.Due.{Due}
use Rattle.kbm_read.specs.declared.line.Due.TheVariants as due
use Rattle.kbm_read.specs.declared.line.Head.{Head}
use Rattle.kbm_read.specs.declared.line.State.{State}
use Rattle.kbm_read.proofs.EntryTexts.{entry_text, text_entry, no_entry, entry_none}
use Rattle.kbm_read.proofs.LastKey.{last_key_at}
use Rattle.kbm_read.proofs.Fields.{read_as, pitch_of, read_gives, gives_read, read_wrong, wrong_read}
use Rattle.base.proofs.Said.{same_value, no_value, no_refusal, same_refuses}

-- what was said, with one value more
abbrev pub with_field : (f : Required) → Head → Value f → Head
with_field Required.size h n = record { size = n; first = h.first; end = h.end; middle = h.middle; reference = h.reference; hz = h.hz; octave = h.octave }
with_field Required.first h z = record { size = h.size; first = z; end = h.end; middle = h.middle; reference = h.reference; hz = h.hz; octave = h.octave }
with_field Required.last h z = record { size = h.size; first = h.first; end = z +ℤ pos 1; middle = h.middle; reference = h.reference; hz = h.hz; octave = h.octave }
with_field Required.middle h z = record { size = h.size; first = h.first; end = h.end; middle = z; reference = h.reference; hz = h.hz; octave = h.octave }
with_field Required.reference h z = record { size = h.size; first = h.first; end = h.end; middle = h.middle; reference = z; hz = h.hz; octave = h.octave }
with_field Required.pitch h v = record { size = h.size; first = h.first; end = h.end; middle = h.middle; reference = h.reference; hz = v; octave = h.octave }
with_field Required.octave h z = record { size = h.size; first = h.first; end = h.end; middle = h.middle; reference = h.reference; hz = h.hz; octave = z }

-- of which the first key is looked back at
pub seen_put : (f : Required) (h : Head) (v : Value f) → (with_field f h v).first ≡ see f h.first v
seen_put Required.size h v = refl
seen_put Required.first h v = refl
seen_put Required.last h v = refl
seen_put Required.middle h v = refl
seen_put Required.reference h v = refl
seen_put Required.pitch h v = refl
seen_put Required.octave h v = refl

-- an entry at line k, or 8
abbrev pub entry_said : ℕ → (Option (Option ℤ)) → Said (Option ℤ)
entry_said k (Some e) = gives e
entry_said k None = refuses keyboard_mapping k

pub said_is : (k : ℕ) (r : (Option (Option ℤ))) (e : (Option ℤ)) → entry_said k r ≡ gives e → r ≡ Some e
said_is k (Some x) e q = ap Some (same_value x e q)
said_is k None e q = no_value q

pub said_not : (k : ℕ) (r : (Option (Option ℤ))) (n d : ℕ) → entry_said k r ≡ refuses n d → (d ≡ k) × (n ≡ keyboard_mapping) × (r ≡ None)
said_not k (Some x) n d q = no_refusal q
said_not k None n d q = let r = same_refuses q in (sym r.1, sym r.0, refl)

-- HOW A MAPPING IS READ
abbrev pub reads : Reads mapping
reads = record {
  Head = Head;
  put = with_field;
  seen = λ h. h.first;
  seen_put = seen_put;
  read_as = λ f h. read_as f h.first;
  entry_as = λ k t. entry_said k (entry_in t);
  read_gives = λ f h. read_gives f h.first;
  gives_read = λ f h. gives_read f h.first;
  read_wrong = λ f h. read_wrong f h.first;
  wrong_read = λ f h. wrong_read f h.first;
  entry_is = λ k t e q. entry_text t e (said_is k (entry_in t) e q);
  is_entry = λ k t e x. ap (entry_said k) (text_entry t e x);
  entry_bad = λ k t n d q. let r = said_not k (entry_in t) n d q in (r.0, (r.1, no_entry t r.2));
  bad_entry = λ k t n w. ap (entry_said k) (entry_none t w.1) ∙ ap (λ x. refuses x k) (sym w.0);
}

-- the required lines from the one that is due on
abbrev fields_from : Due → List Required
fields_from due.Size = required
fields_from due.FirstKey = Required.first ∷ Required.last ∷ Required.middle ∷ Required.reference ∷ Required.pitch ∷ Required.octave ∷ []
fields_from due.LastKey = Required.last ∷ Required.middle ∷ Required.reference ∷ Required.pitch ∷ Required.octave ∷ []
fields_from due.MiddleKey = Required.middle ∷ Required.reference ∷ Required.pitch ∷ Required.octave ∷ []
fields_from due.ReferenceKey = Required.reference ∷ Required.pitch ∷ Required.octave ∷ []
fields_from due.ReferencePitch = Required.pitch ∷ Required.octave ∷ []
fields_from due.Octave = Required.octave ∷ []
fields_from due.Entries = []

-- before the entries none is counted
abbrev Early : Due → ℕ → Type 0
Early due.Size n = n ≡ 0
Early due.FirstKey n = n ≡ 0
Early due.LastKey n = n ≡ 0
Early due.MiddleKey n = n ≡ 0
Early due.ReferenceKey n = n ≡ 0
Early due.ReferencePitch n = n ≡ 0
Early due.Octave n = n ≡ 0
Early due.Entries n = Unit {0}

-- a state stands to a place
record Stands (s : State) (p : Place mapping reads) : Type 0 where
  fields : p.fields ≡ fields_from s.due
  head : p.head ≡ s.head
  count : s.count ≡ length p.es
  early : Early s.due s.count

-- A REQUIRED LINE, where no entry was given
module _ (k : ℕ) (es : List (Option ℤ)) (z : length es ≡ 0) (d : Due) (start : Early d 0) where
  goes : (h : Head) → Stands (record { due = d; head = h; count = 0 }) (record { fields = fields_from d; head = h; es = es })
  goes h = record { fields = refl; head = refl; count = sym z; early = start }

  int_alike : (i : Int) {A : Type 0} (v : ℤ → A) (w : A → Head) →
      Alike Stands (and_then (int_at int_value k i) (λ y. goes_on d (w (v y)))) (and_then (and_then (int_at int_value k i) (λ y. gives (v y))) (λ a. gives (record { fields = fields_from d; head = w a; es = es })))
  int_alike (value y) v w = Alike.values _ _ (goes (w (v y)))
  int_alike none v w = Alike.refusals _ _

  -- the last key, after that first
  abbrev last_picked : Head → Bool → Bool → Said State
  last_picked h over up = pick over (refuses overflow k) (pick up (goes_on d h) (refuses backwards_range k))

  last_alike : (key : ℤ) (i : Int) (w : ℤ → Head) →
      Alike Stands (and_then (int_at int_value k i) (λ y. last_picked (w y) (le_z (pos 2147483647) y) (le_z key y)))
      (and_then (and_then (int_at int_value k i) (last_key_at key k)) (λ a. gives (record { fields = fields_from d; head = w a; es = es })))
  last_alike key (value y) w = go (le_z (pos 2147483647) y) (le_z key y)
    where
      go : (over up : Bool) → Alike Stands (last_picked (w y) over up)
          (and_then (pick over (refuses overflow k) (pick up (gives y) (refuses backwards_range k))) (λ a. gives (record { fields = fields_from d; head = w a; es = es })))
      go true up = Alike.refusals _ _
      go false true = Alike.values _ _ (goes (w y))
      go false false = Alike.refusals _ _
  last_alike key none w = Alike.refusals _ _

  pitch_alike : (x : (Result Float DecimalError)) (w : Float → Head) →
      Alike Stands (and_then (says_decimal float_value k x) (λ v. pick (in_pitch v) (goes_on d (w v)) (refuses unusable k)))
      (and_then (and_then (says_decimal float_value k x) (pitch_of k)) (λ a. gives (record { fields = fields_from d; head = w a; es = es })))
  pitch_alike (Ok v) w = go (in_pitch v)
    where
      go : (b : Bool) → Alike Stands (pick b (goes_on d (w v)) (refuses unusable k)) (and_then (pick b (gives v) (refuses unusable k)) (λ a. gives (record { fields = fields_from d; head = w a; es = es })))
      go true = Alike.values _ _ (goes (w v))
      go false = Alike.refusals _ _
  pitch_alike (Err decimal.Unsupported) w = Alike.refusals _ _
  pitch_alike (Err decimal.Bad) w = Alike.refusals _ _

-- AN ENTRY
entry_alike : (room k : ℕ) (s : State) (es : List (Option ℤ)) → s.count ≡ length es → (r : (Option (Option ℤ))) →
    Alike Stands (entry_placed room k s r) (and_then (entry_said k r) (placed mapping reads room k s.head es))
entry_alike room k s es c (Some e) = rw (sym c) (go (leb room s.count))
  where
    go : (b : Bool) →
        Alike Stands (pick b (refuses no_room k) (gives (record { due = due.Entries; head = s.head; count = s.count + 1 })))
        (pick b (refuses no_room k) (gives (record { fields = []; head = s.head; es = es ++ e ∷ [] })))
    go true = Alike.refusals _ _
    go false = Alike.values (record { due = due.Entries; head = s.head; count = s.count + 1 }) (record { fields = []; head = s.head; es = es ++ e ∷ [] })
        (record { fields = refl; head = refl; count = omega (arith, c, length-append es (e ∷ [])); early = tt })
entry_alike room k s es c None = Alike.refusals keyboard_mapping k

-- THE LINE THAT IS DUE
due_alike : (room k : ℕ) (t : List ℕ) (s : State) (es : List (Option ℤ)) → s.count ≡ length es → (d : Due) → Early d s.count →
    Alike Stands (take_due room k t s d) (word_on mapping reads room k t s.head es (fields_from d))
due_alike room k t s es c due.Size z = int_alike k es (sym c ∙ z) due.FirstKey refl (read_int false (2 ^ 16) t) nat_abs (with_field Required.size s.head)
due_alike room k t s es c due.FirstKey z = int_alike k es (sym c ∙ z) due.LastKey refl (read_int true (2 ^ 31) t) (λ y. y) (with_field Required.first s.head)
due_alike room k t s es c due.LastKey z = last_alike k es (sym c ∙ z) due.MiddleKey refl s.head.first (read_int true (2 ^ 31) t) (with_field Required.last s.head)
due_alike room k t s es c due.MiddleKey z = int_alike k es (sym c ∙ z) due.ReferenceKey refl (read_int true (2 ^ 15) t) (λ y. y) (with_field Required.middle s.head)
due_alike room k t s es c due.ReferenceKey z = int_alike k es (sym c ∙ z) due.ReferencePitch refl (read_int true (2 ^ 15) t) (λ y. y) (with_field Required.reference s.head)
due_alike room k t s es c due.ReferencePitch z = pitch_alike k es (sym c ∙ z) due.Octave refl (read_decimal t) (with_field Required.pitch s.head)
due_alike room k t s es c due.Octave z = int_alike k es (sym c ∙ z) due.Entries tt (read_int true (2 ^ 15) t) (λ y. y) (with_field Required.octave s.head)
due_alike room k t s es c due.Entries z = entry_alike room k s es c (entry_in t)

steps : (room k : ℕ) (m : Meaning) (s : State) (p : Place mapping reads) → Stands s p → Alike Stands (take_meaning room k m s) (step_on mapping reads room k m p)
unfolding take_token
steps room k invalid s p x = Alike.refusals _ _
steps room k blank s p x = Alike.values s p x
steps room k comment s p x = Alike.values s p x
steps room k (content m t) s p x = rw (x.fields, x.head) (due_alike room k t s p.es x.count s.due x.early)

-- THE END
abbrev pub finish_on : ℕ → Head → List (Option ℤ) → Said Kbm
finish_on room h es =
    pick (ltb room h.size) (refuses no_room 0)
    (pick (ltb 65535 (length es)) (refuses too_large 0)
    (pick (ltb h.size (length es)) (refuses inconsistent_count 0)
    (gives (mapping_of h))))

ends : (room : ℕ) (s : State) (p : Place mapping reads) → Stands s p → finished room s ≡ end_on mapping reads (finish_on room) p.head p.es p.fields
unfolding finished
ends room s p x = rw (x.fields, x.head) (go s.due)
  where
    go : (d : Due) →
        pick (ltb 0 (which_of d)) (refuses line_missing (which_of d))
        (pick (ltb room s.head.size) (refuses no_room 0)
        (pick (ltb 65535 s.count) (refuses too_large 0)
        (pick (ltb s.head.size s.count) (refuses inconsistent_count 0)
        (gives (mapping_of s.head))))) ≡ end_on mapping reads (finish_on room) s.head p.es (fields_from d)
    go due.Size = refl
    go due.FirstKey = refl
    go due.LastKey = refl
    go due.MiddleKey = refl
    go due.ReferenceKey = refl
    go due.ReferencePitch = refl
    go due.Octave = refl
    go due.Entries = rw x.count

-- THE SAME WALK
pub same_walk : (room : ℕ) (ms : List Meaning) → walk room 1 unread ms ≡ walk_on mapping reads (finish_on room) room 1 (at_start mapping reads unread.head) ms
same_walk room ms =
    walks.same_walk mapping reads (take_meaning room) (finished room) (finish_on room) room Stands (steps room) (ends room) 1 unread (at_start mapping reads unread.head) ms
    (record { fields = refl; head = refl; count = refl; early = refl })
