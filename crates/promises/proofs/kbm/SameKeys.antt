-- A MAPPING AND A PUBLISHED MEANING WITH THE SAME KEYS: what document 01 answers for a key of the one is what Scala's pages say of it by
-- the other, within 32 bits. Assumes nothing.
use Rattle.std.specs.Prelude.{Some, None, Option}
use mathlib.Core.Path.{◌≡◌, refl, sym, ap, ◌∙◌}
use mathlib.Core.Bool.{Bool, true, false}
use mathlib.Core.List.{List}
use mathlib.Core.Logic.{inl, inr}
use Prim.Native.Nat.{ℕ}
use native.Mathlib.Omega.{arith}
use lib.IntN.{ℤ, ◌+ℤ◌, ◌-ℤ◌, ◌*ℤ◌}
use lib.ListN.{length, get_or}
use Rattle.base.specs.Integers.{Divides, in_i32}
use Rattle.base.specs.Numbers.{overflow, key_out_of_range, unmapped_key}
use Rattle.base.specs.Said.{Said, gives, refuses}
use Rattle.base.proofs.Division.{divides_one}
use Rattle.base.proofs.Integers.{bool_cases}
use Rattle.base.proofs.Said.{same_value}
use Rattle.kbm.specs.Degree.{scale_degree_of}
use Rattle.kbm.specs.Keys.{in_keys, distance, Reaches, Has}
use Rattle.kbm.specs.Table.{is_table, table_of}
use Rattle.kbm.specs.declared.Kbm.{Kbm}
use Rattle.kbm.proofs.Theorems.{key_has}
use Rattle.kbm_write.specs.Export.{last_key_of}
use Rattle.kbm_write.specs.Published as P
use Rattle.key.specs.declared.PianoKey.{PianoKey}
use Rattle.promises.specs.kbm.Sounding.{SoundsWithin, SilentWithin, SoundsPast, AnsweredAs}
use Rattle.promises.proofs.kbm.KeysOfText.{other, no_degree}
use Rattle.promises.proofs.kbm.Range.{inside, inside_back}

-- a place that is unmapped has no degree
pub not_mapped : (m : P.Mapping) {r i : ℕ} {z : ℤ} → r ≡ i → get_or m.given i None ≡ None → get_or m.given r None ≡ Some z → ⊥
not_mapped m {r} {i} {z} p u f =
    let x : ◌≡◌ {A = (Option ℤ)} None (Some z) = sym u ∙ sym (ap (λ (j : ℕ). get_or m.given j None) p) ∙ f in
    let y : ◌≡◌ {A = ℕ} 0 1 = cc in
    omega arith

-- m says of the keys what the mapping with the entries es does, and its middle key is the mapping's reference key
pub record SameKeys (m : P.Mapping) (kbm : Kbm) (es : List (Option ℤ)) : Type 0 where
  pub first : m.first ≡ kbm.start.0
  pub last : m.last ≡ last_key_of kbm
  pub middle : m.middle ≡ kbm.root.reference.0
  pub octave : m.octave ≡ kbm.octave
  pub size : length es ≡ m.size
  pub given : (r : ℕ) → get_or es r None ≡ get_or m.given r None

pub not_both : {A : Type 0} {t : Bool} → t ≡ true → t ≡ false → A
not_both p q = let n : ◌≡◌ {A = ℕ} 0 1 = cc in absurd (omega arith)

module _ {m : P.Mapping} {kbm : Kbm} {es : List (Option ℤ)} (a : SameKeys m kbm es) (key : PianoKey) where
  pub from_middle : key.0 -ℤ m.middle ≡ distance kbm key
  from_middle = ap (λ (z : ℤ). key.0 -ℤ z) a.middle

  retuned : in_keys kbm key ≡ true → P.Retuned m key.0
  retuned w = rw (a.first, a.last) (inside kbm key w)

  retuned_back : P.Retuned m key.0 → in_keys kbm key ≡ true
  retuned_back r = let q = rw (a.first, a.last) at r in inside_back kbm key q.0 q.1

  near : in_i32 (distance kbm key) ≡ true → in_i32 (key.0 -ℤ m.middle) ≡ true
  near n = rw from_middle n

  near_back : in_i32 (key.0 -ℤ m.middle) ≡ true → in_i32 (distance kbm key) ≡ true
  near_back n = rw from_middle at n

  -- ---- degrees
  pub linear : length es ≡ 0 → P.Sounds m key.0 (distance kbm key)
  linear l = P.Sounds.linear (sym a.size ∙ l) (sym from_middle)

  pub mapped : {q : ℤ} (z : ℤ) → Reaches es (distance kbm key) q (Some z) → P.Sounds m key.0 (z +ℤ q *ℤ kbm.octave)
  mapped {q} z at =
      let c : Divides (distance kbm key) m.size q at.place = rw a.size at at.counted in
      P.Sounds.pattern q at.place z (rw from_middle c) (sym (a.given at.place) ∙ at.found) (rw a.octave)

  counted : {q : ℤ} {r : ℕ} → Divides (key.0 -ℤ m.middle) m.size q r → Divides (distance kbm key) (length es) q r
  counted c = rw a.size (rw from_middle at c)

  -- an unmapped place sounds none
  pub unmapped : {q : ℤ} → Reaches es (distance kbm key) q None → (d : ℤ) → P.Sounds m key.0 d → ⊥
  unmapped at d (P.Sounds.linear l g) = omega (arith, at.counted.rest, a.size)
  unmapped at d (P.Sounds.pattern y r z c f g) =
      let i : r ≡ at.place = (divides_one (counted c)).1 ∙ sym (divides_one at.counted).1 in
      not_mapped m i (sym (a.given at.place) ∙ at.found) f

  reached : {q z : ℤ} {r : ℕ} → Divides (key.0 -ℤ m.middle) m.size q r → get_or m.given r None ≡ Some z → Reaches es (distance kbm key) q (Some z)
  reached {r = r} c f = record { place = r; counted = counted c; found = a.given r ∙ f }

  in_octaves : {d : ℤ} (q z : ℤ) → d ≡ z +ℤ q *ℤ m.octave → d ≡ z +ℤ q *ℤ kbm.octave
  in_octaves q z e = e ∙ ap (λ (y : ℤ). z +ℤ q *ℤ y) a.octave

  -- what sounds is reached, or the map has no entries
  module _ (d : ℤ) (w : in_keys kbm key ≡ true) (n : in_i32 (distance kbm key) ≡ true) where
    sounds_has : P.Sounds m key.0 d → in_i32 d ≡ true → Has kbm es key (gives d)
    sounds_has (P.Sounds.linear l e) h = Has.plain w n (a.size ∙ l) (ap gives (e ∙ from_middle))
    sounds_has (P.Sounds.pattern q i z c f e) h = Has.degree w n q z (reached c f) (rw (in_octaves q z e) at h) (ap gives (in_octaves q z e))

    past_has : P.Sounds m key.0 d → in_i32 d ≡ false → Has kbm es key (refuses overflow 0)
    past_has (P.Sounds.linear l e) h = not_both n (rw (e ∙ from_middle) at h)
    past_has (P.Sounds.pattern q i z c f e) h = Has.passed w n q z (reached c f) (rw (in_octaves q z e) at h) refl

  -- ---- what 01 says is as published
  module _ {s : Said ℤ} where
    degree_there : Has kbm es key s → (d : ℤ) → s ≡ gives d → SoundsWithin m key.0 d
    degree_there (Has.outside w p) d e = no_degree e p
    degree_there (Has.far w n p) d e = no_degree e p
    degree_there (Has.plain w n l p) d e =
        let i : distance kbm key ≡ d = same_value (distance kbm key) d (sym p ∙ e) in
        record { retuned = retuned w; near = near n; held = rw i at n; sounds = rw i at (linear l) }
    degree_there (Has.none w n q at p) d e = no_degree e p
    degree_there (Has.passed w n q z at h p) d e = no_degree e p
    degree_there (Has.degree w n q z at h p) d e =
        let i : z +ℤ q *ℤ kbm.octave ≡ d = same_value (z +ℤ q *ℤ kbm.octave) d (sym p ∙ e) in
        record { retuned = retuned w; near = near n; held = rw i at h; sounds = rw i at (mapped z at) }

    outside_there : Has kbm es key s → s ≡ refuses key_out_of_range 0 → P.Retuned m key.0 → ⊥
    outside_there (Has.outside w p) e r = not_both (retuned_back r) w
    outside_there (Has.far w n p) e r = other p e (λ f. omega arith)
    outside_there (Has.plain w n l p) e r = no_degree p e
    outside_there (Has.none w n q at p) e r = other p e (λ f. omega arith)
    outside_there (Has.passed w n q z at h p) e r = other p e (λ f. omega arith)
    outside_there (Has.degree w n q z at h p) e r = no_degree p e

    silent_there : Has kbm es key s → s ≡ refuses unmapped_key 0 → SilentWithin m key.0
    silent_there (Has.outside w p) e = other p e (λ f. omega arith)
    silent_there (Has.far w n p) e = other p e (λ f. omega arith)
    silent_there (Has.plain w n l p) e = no_degree p e
    silent_there (Has.none w n q at p) e = record { retuned = retuned w; within = near n; silent = unmapped at }
    silent_there (Has.passed w n q z at h p) e = other p e (λ f. omega arith)
    silent_there (Has.degree w n q z at h p) e = no_degree p e

    past_there : Has kbm es key s → s ≡ refuses overflow 0 → SoundsPast m key.0
    past_there (Has.outside w p) e = other p e (λ f. omega arith)
    past_there (Has.far w n p) e = SoundsPast.distance (retuned w) (rw from_middle n)
    past_there (Has.plain w n l p) e = no_degree p e
    past_there (Has.none w n q at p) e = other p e (λ f. omega arith)
    past_there (Has.passed w n q z at h p) e = SoundsPast.degree (retuned w) (z +ℤ q *ℤ kbm.octave) (mapped z at) h
    past_there (Has.degree w n q z at h p) e = no_degree p e

    -- a retuned key near enough that sounds nothing is unmapped
    silent_back : Has kbm es key s → SilentWithin m key.0 → s ≡ refuses unmapped_key 0
    silent_back (Has.outside w p) x = not_both (retuned_back x.retuned) w
    silent_back (Has.far w n p) x = not_both (near_back x.within) n
    silent_back (Has.plain w n l p) x = absurd (x.silent (distance kbm key) (linear l))
    silent_back (Has.none w n q at p) x = p
    silent_back (Has.passed w n q z at h p) x = absurd (x.silent (z +ℤ q *ℤ kbm.octave) (mapped z at))
    silent_back (Has.degree w n q z at h p) x = absurd (x.silent (z +ℤ q *ℤ kbm.octave) (mapped z at))

  -- ---- and back
  degree_back : (d : ℤ) → SoundsWithin m key.0 d → Has kbm es key (gives d)
  degree_back d x = sounds_has d (retuned_back x.retuned) (near_back x.near) x.sounds x.held

  outside_back : (P.Retuned m key.0 → ⊥) → Has kbm es key (refuses key_out_of_range 0)
  outside_back f = elim (bool_cases (in_keys kbm key)) [
    | inl w ↦ absurd (f (retuned w))
    | inr w ↦ Has.outside w refl
  ]

  past_back : SoundsPast m key.0 → Has kbm es key (refuses overflow 0)
  past_back (SoundsPast.distance r n) = Has.far (retuned_back r) (rw from_middle at n) refl
  past_back (SoundsPast.degree r d x h) = elim (bool_cases (in_i32 (distance kbm key))) [
    | inl n ↦ past_has d (retuned_back r) n x h
    | inr n ↦ Has.far (retuned_back r) n refl
  ]

-- what is answered on a table of such entries
pub answers : {m : P.Mapping} (kbm : Kbm) (map : List ℤ) → is_table kbm.count map ≡ true → SameKeys m kbm (table_of kbm.count map) → (key : PianoKey) → AnsweredAs m key.0 (scale_degree_of kbm map key)
answers kbm map t a key =
    let has = key_has kbm map key t in
    let this = (has (scale_degree_of kbm map key)).0 refl in
    record {
      degree = λ d. (degree_there a key this d, λ x. (has (gives d)).1 (degree_back a key d x));
      outside = (outside_there a key this, λ f. (has (refuses key_out_of_range 0)).1 (outside_back a key f));
      silent = (silent_there a key this, silent_back a key this);
      past = (past_there a key this, λ x. (has (refuses overflow 0)).1 (past_back a key x));
    }
