-- THE DEGREES OF A MAPPING, HERE AND AS PUBLISHED: counted from the middle key (document 02, W1) a key has what Scala's pages give it,
-- within 32 bits, for every middle key; by document 01 where middle and reference key are one, and else the two may part. Assumes nothing.
use Rattle.std.specs.Prelude.{None, Option}
use mathlib.Core.Path.{◌≡◌, refl, sym, ap, ◌∙◌, subst}
use mathlib.Core.Bool.{true}
use mathlib.Core.List.{List}
use Prim.Native.Nat.{ℕ, ◌-◌, ◌≤◌}
use native.Mathlib.Omega.{arith}
use lib.Dec.{lit<}
use lib.IntN.{ℤ, pos, ◌-ℤ◌, +ℤ_idr, +ℤ-neg_ℤ_cancel}
use lib.ListN.{length, get_or}
use Rattle.base.specs.Integers.{held}
use Rattle.base.specs.Said.{Said, gives}
use Rattle.base.proofs.Division.{divides_one}
use Rattle.kbm.specs.Degree.{degree_at, scale_degree_of}
use Rattle.kbm.specs.Middle.{middle_of, counted_from, scale_degree_from_middle}
use Rattle.kbm.specs.Table.{are_entries, entries_of, is_table, table_of}
use Rattle.kbm.specs.declared.Kbm.{Kbm}
use Rattle.kbm.proofs.Table.{table_length}
use Rattle.kbm_read.specs.Reader.{read_of, after_read}
use Rattle.kbm_read.proofs.Ends.{length_added}
use Rattle.kbm_write.specs.Export.{last_key_of, export_text}
use Rattle.kbm_write.specs.Published as P
use Rattle.kbm_write.specs.Typed.{TypedKbm}
use Rattle.kbm_write.proofs.Published.{export_published}
use Rattle.key.specs.Keys.{key}
use Rattle.key.specs.declared.PianoKey.{PianoKey}
use Rattle.pitch.specs.declared.Pitch.{Pitch}
use Rattle.promises.specs.kbm.Agree.{Agree}
use Rattle.promises.specs.kbm.Limits.{WithinLimits}
use Rattle.promises.specs.kbm.Sounding.{AnsweredAs, as_published, Parting}
use Rattle.promises.proofs.kbm.Accepted.{published_read}
use Rattle.promises.proofs.kbm.KeysOfText.{middle_back}
use Rattle.promises.proofs.kbm.OneMeaning.{one_meaning}
use Rattle.promises.proofs.kbm.Places.{added_at}
use Rattle.promises.proofs.kbm.SameKeys.{not_mapped, SameKeys, answers}

-- a key sounds one degree
pub one_sound : (m : P.Mapping) (key d e : ℤ) → P.Sounds m key d → P.Sounds m key e → d ≡ e
one_sound m key d e (P.Sounds.linear n p) (P.Sounds.linear l q) = p ∙ sym q
one_sound m key d e (P.Sounds.linear n p) (P.Sounds.pattern q r z c f g) = absurd (omega (arith, c.rest))
one_sound m key d e (P.Sounds.pattern q r z c f g) (P.Sounds.linear n p) = absurd (omega (arith, c.rest))
one_sound m key d e (P.Sounds.pattern q r z c f g) (P.Sounds.pattern x y w k i j) =
    let a = divides_one c in
    let b = divides_one k in
    let u : q ≡ x = a.0 ∙ sym b.0 in
    let v : r ≡ y = a.1 ∙ sym b.1 in
    let s : z ≡ w = cc in
    cc

-- ---- A MAPPING THAT IS WRITTEN: `published_of` is what its export says as published
module _ (kbm : Kbm) (map : List ℤ) (t : is_table kbm.count map ≡ true) where
  abbrev es : List (Option ℤ)
  es = table_of kbm.count map

  abbrev m : P.Mapping
  m = P.published_of kbm es

  -- counted from a key that is the middle key
  pub same_keys : (origin : PianoKey) → m.middle ≡ origin.0 → SameKeys m (counted_from origin kbm) es
  same_keys origin o =
      record { first = refl; last = refl; middle = o; octave = refl; size = table_length kbm.count map t; given = λ r. refl }

  sounds_from : (origin : PianoKey) → m.middle ≡ origin.0 → (key : PianoKey) →
      AnsweredAs m key.0 (scale_degree_of (counted_from origin kbm) map key)
  sounds_from origin o key = answers (counted_from origin kbm) map t (same_keys origin o) key

  -- COUNTED FROM THE MIDDLE KEY, whatever the offset: a key has a degree exactly when it is retuned and sounds that degree, distance and
  -- degree being numbers of 32 bits; 16 exactly when it is not retuned; 17 exactly when it is retuned, its distance is a number of 32 bits
  -- and no degree sounds; 11 exactly in the cases left
  pub sounds_from_middle : (key : PianoKey) → AnsweredAs m key.0 (scale_degree_from_middle kbm map key)
  sounds_from_middle k = sounds_from (key (middle_of kbm.root)) refl k

  -- BY 01 the same degrees where middle and reference key are one
  pub sounds_same : kbm.root.offset ≡ pos 0 → (key : PianoKey) → AnsweredAs m key.0 (scale_degree_of kbm map key)
  unfolding scale_degree_of
  sounds_same o k = sounds_from kbm.root.reference (rw o (+ℤ_idr kbm.root.reference.0)) k

  -- by the bytes of the export: what is answered as `published_of` has it is answered as these say, whatever they say as published
  module _ (y : TypedKbm kbm es) (n : P.Mapping) (p : P.PublishedText (export_text kbm es) n) (key : PianoKey) where
    by_bytes : (answer : Said ℤ) → AnsweredAs m key.0 answer → AnsweredAs n key.0 answer
    by_bytes answer a =
        subst (λ (x : P.Mapping). AnsweredAs x key.0 answer) (one_meaning (export_text kbm es) m n (export_published kbm es y) p) a

    pub export_sounds_from_middle : AnsweredAs n key.0 (scale_degree_from_middle kbm map key)
    export_sounds_from_middle = by_bytes (scale_degree_from_middle kbm map key) (sounds_from_middle key)

  pub export_sounds : kbm.root.offset ≡ pos 0 → TypedKbm kbm es → (n : P.Mapping) → P.PublishedText (export_text kbm es) n →
      (key : PianoKey) → AnsweredAs n key.0 (scale_degree_of kbm map key)
  export_sounds o y n p key = by_bytes y n p key (scale_degree_of kbm map key) (sounds_same o key)

-- ---- A PUBLISHED TEXT THAT IS READ: m is what the text itself says
module _ {s : List ℕ} {m : P.Mapping} (p : P.PublishedText s m) where
  module _ {k : Kbm} (map : List ℤ) (t : is_table k.count map ≡ true) (a : Agree m k (table_of k.count map)) where
    last_is : m.last ≡ last_key_of k
    last_is = sym (+ℤ-neg_ℤ_cancel m.last (pos 1)) ∙ ap (λ (z : ℤ). z -ℤ pos 1) a.last

    all : length (table_of k.count map) ≡ m.size
    all = omega (arith, ap length a.entries, length_added m.size m.given, p.most)

    given_is : (r : ℕ) → get_or (table_of k.count map) r None ≡ get_or m.given r None
    given_is r = rw a.entries (added_at m.given (m.size - length m.given) r)

    -- counted from a key that is its middle key
    pub agree_keys : (origin : PianoKey) → m.middle ≡ origin.0 → SameKeys m (counted_from origin k) (table_of k.count map)
    agree_keys origin o = record { first = a.first; last = last_is; middle = o; octave = a.octave; size = all; given = given_is }

    agree_from : (origin : PianoKey) → m.middle ≡ origin.0 → (key : PianoKey) →
        AnsweredAs m key.0 (scale_degree_of (counted_from origin k) map key)
    agree_from origin o key = answers (counted_from origin k) map t (agree_keys origin o) key

    pub middle_is : m.middle ≡ middle_of k.root
    middle_is = rw (← a.reference, ← a.middle) (sym (middle_back m.middle m.reference))

  module _ (w : WithinLimits p) (old : List ℤ) (room : m.size ≤ length old) where
    -- the text is read; what is read, counted from the middle key, answers for each key as the text says as published, within 32 bits; and
    -- where middle and reference key are one so does 01's counting
    pub read_sounds : (k : Kbm) × (read_of (length old) s ≡ gives k)
        × ((key : PianoKey) → AnsweredAs m key.0 (scale_degree_from_middle k (after_read s old) key))
        × (m.middle ≡ m.reference → (key : PianoKey) → AnsweredAs m key.0 (scale_degree_of k (after_read s old) key))
    unfolding scale_degree_of
    read_sounds =
        let (k, read, t, a) = published_read p w old room in (
          k,
          read,
          agree_from (after_read s old) t a (key (middle_of k.root)) (middle_is (after_read s old) t a),
          (λ one. agree_from (after_read s old) t a k.root.reference (one ∙ a.reference)),
        )

-- ---- THE PARTING
pub parting : (pitch : Pitch) → Parting pitch
unfolding scale_degree_of degree_at are_entries entries_of held
parting pitch =
    record {
      middle = refl;
      here60 = refl;
      middle60 = refl;
      there60 = none;
      here62 = refl;
      middle62 = refl;
      there62 = first;
      only62 = λ d s. one_sound (as_published pitch) (pos 62) d (pos 0) s first;
    }
  where
    -- -2 is -1 times 3 and 1 more: the second entry, which is unmapped
    none : (d : ℤ) → P.Sounds (as_published pitch) (pos 60) d → ⊥
    none d (P.Sounds.linear n e) = omega arith
    none d (P.Sounds.pattern q r z c f e) = not_mapped (as_published pitch) (divides_one c).1 refl f

    first : P.Sounds (as_published pitch) (pos 62) (pos 0)
    first = P.Sounds.pattern (pos 0) 0 (pos 0) (record { whole = refl; rest = lit< tt }) refl refl
