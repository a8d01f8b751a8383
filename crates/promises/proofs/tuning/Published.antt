-- THE PITCH OF A KEY, HERE AND AS PUBLISHED: counted from the middle key (document 02, W1) a key sounds what Scala's pages give it, as far
-- as rounding and 32 bits allow, for every middle key: of a mapping that is given, and of one that a text's bytes say. Assumes nothing.
use Rattle.std.specs.Prelude.{Option}
use mathlib.Core.Path.{◌≡◌, refl, sym, ap, ◌∙◌, subst}
use mathlib.Core.Bool.{true, false}
use mathlib.Core.List.{List}
use mathlib.Core.Logic.Iff
use mathlib.Core.Logic.{◌↔◌}
use Prim.Native.Nat.{ℕ, ◌^◌, ◌≤◌}
use lib.IntN.{ℤ, ◌-ℤ◌}
use lib.ListN.{length}
use lib.Ieee.{Float, binary64, round}
use Rattle.base.specs.Integers.{in_i32}
use Rattle.base.specs.Numbers.{overflow, key_out_of_range, unmapped_key, beyond_reach, reference_unmapped}
use Rattle.base.specs.Said.{Said, gives, refuses}
use Rattle.scl.specs.declared.Item.{Item}
use Rattle.key.specs.Keys.{key}
use Rattle.key.specs.declared.PianoKey.{PianoKey}
use Rattle.kbm.specs.Keys.{Has}
use Rattle.kbm.specs.Middle.{middle_of, at_middle, scale_degree_from_middle, reference_degree}
use Rattle.kbm.specs.ReferenceKey.{reference_distance, ReferenceHas}
use Rattle.kbm.specs.Root.{is_root}
use Rattle.kbm.specs.Table.{is_table, table_of}
use Rattle.kbm.specs.declared.Kbm.{Kbm}
use Rattle.kbm.proofs.Middle.{middle_has, reference_has}
use Rattle.kbm_read.specs.Reader.{read_of, after_read}
use Rattle.kbm_write.specs.Published as P
use Rattle.relative.specs.Refusals.{ReachedOrBeyond}
use Rattle.relative.proofs.Theorems.{hz_reach, from_reached}
use Rattle.tuning.specs.Middle.{maybe_pitch_from_middle}
use Rattle.tuning.specs.MiddleRefusals.{KeySoundsFromMiddle}
use Rattle.tuning.proofs.Middle.{key_sounds_from_middle}
use Rattle.promises.specs.kbm.Limits.{WithinLimits}
use Rattle.promises.specs.kbm.Sounding.{SoundsWithin, SilentWithin, SoundsPast, AnsweredAs}
use Rattle.promises.specs.tuning.Published.{ReferenceSounds, ReferenceSilent, ReferencePast, ReferenceAs}
use Rattle.promises.specs.tuning.Published.{InRatio, NoReference, EitherPast, PitchedAs}
use Rattle.promises.proofs.kbm.Accepted.{published_read}
use Rattle.promises.proofs.kbm.SameKeys.{not_both, SameKeys, from_middle, linear, mapped, unmapped, answers}
use Rattle.promises.proofs.kbm.Sounding.{one_sound, same_keys, agree_keys, middle_is}

-- ---- THE REFERENCE KEY
-- what is said of it as published: one case for each answer
data ReferenceSaid (m : P.Mapping) : Said ℤ → Type 0 where
  sounds : (r : ℤ) → ReferenceSounds m r → ReferenceSaid m (gives r)
  silent : ReferenceSilent m → ReferenceSaid m (refuses reference_unmapped 0)
  past : ReferencePast m → ReferenceSaid m (refuses overflow 0)

module _ {m : P.Mapping} where
  said_sounds : {r : ℤ} → ReferenceSaid m (gives r) → ReferenceSounds m r
  said_sounds (ReferenceSaid.sounds r x) = x

  said_silent : ReferenceSaid m (refuses reference_unmapped 0) → ReferenceSilent m
  said_silent (ReferenceSaid.silent x) = x

  said_past : ReferenceSaid m (refuses overflow 0) → ReferencePast m
  said_past (ReferenceSaid.past x) = x

  -- the cases exclude one another
  only_sounds : {s : Said ℤ} (r : ℤ) → ReferenceSaid m s → ReferenceSounds m r → s ≡ gives r
  only_sounds r (ReferenceSaid.sounds q y) x = ap gives (one_sound m _ q r y.sounds x.sounds)
  only_sounds r (ReferenceSaid.silent y) x = absurd (y.silent r x.sounds)
  only_sounds r (ReferenceSaid.past (ReferencePast.distance n)) x = not_both x.near n
  only_sounds r (ReferenceSaid.past (ReferencePast.degree q y n)) x =
      not_both x.held (rw (one_sound m _ q r y x.sounds) at n)

  only_silent : {s : Said ℤ} → ReferenceSaid m s → ReferenceSilent m → s ≡ refuses reference_unmapped 0
  only_silent (ReferenceSaid.sounds q y) x = absurd (x.silent q y.sounds)
  only_silent (ReferenceSaid.silent y) x = refl
  only_silent (ReferenceSaid.past (ReferencePast.distance n)) x = not_both x.near n
  only_silent (ReferenceSaid.past (ReferencePast.degree q y n)) x = absurd (x.silent q y)

  only_past : {s : Said ℤ} → ReferenceSaid m s → ReferencePast m → s ≡ refuses overflow 0
  only_past (ReferenceSaid.sounds q y) (ReferencePast.distance n) = not_both y.near n
  only_past (ReferenceSaid.sounds q y) (ReferencePast.degree r x n) =
      not_both y.held (rw (one_sound m _ r q x y.sounds) at n)
  only_past (ReferenceSaid.silent y) (ReferencePast.distance n) = not_both y.near n
  only_past (ReferenceSaid.silent y) (ReferencePast.degree r x n) = absurd (y.silent r x)
  only_past (ReferenceSaid.past y) x = refl

-- m says of the keys what the mapping does, counted from the middle key, and has its reference key
module _ (kbm : Kbm) {m : P.Mapping} {es : List (Option ℤ)} (a : SameKeys m (at_middle kbm) es)
    (same : m.reference ≡ kbm.root.reference.0) where
  distance_is : m.reference -ℤ m.middle ≡ reference_distance kbm
  distance_is = ap (λ (z : ℤ). z -ℤ m.middle) same ∙ from_middle a kbm.root.reference

  near : in_i32 (reference_distance kbm) ≡ true → in_i32 (m.reference -ℤ m.middle) ≡ true
  near n = rw distance_is n

  it_sounds : {r : ℤ} → P.Sounds m kbm.root.reference.0 r → P.Sounds m m.reference r
  it_sounds {r} = subst (λ (z : ℤ). P.Sounds m z r) (sym same)

  it_sounded : {r : ℤ} → P.Sounds m m.reference r → P.Sounds m kbm.root.reference.0 r
  it_sounded {r} = subst (λ (z : ℤ). P.Sounds m z r) same

  -- what it has is as published
  reference_said : {s : Said ℤ} → ReferenceHas kbm es s → ReferenceSaid m s
  reference_said (ReferenceHas.far n p) = rw p (ReferenceSaid.past (ReferencePast.distance (rw distance_is n)))
  reference_said (ReferenceHas.plain n l p) =
      rw p (ReferenceSaid.sounds _ (record { near = near n; held = n; sounds = it_sounds (linear a kbm.root.reference l) }))
  reference_said (ReferenceHas.none n q r p) =
      rw p (ReferenceSaid.silent (record { near = near n; silent = λ d x. unmapped a kbm.root.reference r d (it_sounded x) }))
  reference_said (ReferenceHas.passed n q e r h p) =
      rw p (ReferenceSaid.past (ReferencePast.degree _ (it_sounds (mapped a kbm.root.reference e r)) h))
  reference_said (ReferenceHas.degree n q e r h p) =
      rw p (ReferenceSaid.sounds _ (record { near = near n; held = h; sounds = it_sounds (mapped a kbm.root.reference e r) }))

  -- its own degree, both ways
  pub reference_answers : ReferenceAs m (reference_degree kbm es)
  reference_answers =
      let this = reference_said ((reference_has kbm es (reference_degree kbm es)).0 refl) in
      record {
        degree = λ r. (λ e. said_sounds (subst (ReferenceSaid m) e this), only_sounds r this);
        silent = (λ e. said_silent (subst (ReferenceSaid m) e this), only_silent this);
        past = (λ e. said_past (subst (ReferenceSaid m) e this), only_past this);
      }

-- ---- THE PITCH OF A KEY
-- what is said of it as published: one case for each answer
data PitchSaid (m : P.Mapping) (items : List Item) (p : Float) (key : ℤ) : Said Float → Type 0 where
  pitch : (x : Float) → InRatio m items p key (gives x) → PitchSaid m items p key (gives x)
  beyond : InRatio m items p key (refuses beyond_reach 0) → PitchSaid m items p key (refuses beyond_reach 0)
  outside : (P.Retuned m key → ⊥) → PitchSaid m items p key (refuses key_out_of_range 0)
  silent : SilentWithin m key → PitchSaid m items p key (refuses unmapped_key 0)
  reference_silent : NoReference m key → PitchSaid m items p key (refuses reference_unmapped 0)
  past : EitherPast m key → PitchSaid m items p key (refuses overflow 0)

module _ {m : P.Mapping} {items : List Item} {p : Float} {key : ℤ} where
  said_pitch : {x : Float} → PitchSaid m items p key (gives x) → InRatio m items p key (gives x)
  said_pitch (PitchSaid.pitch x i) = i

  said_beyond : PitchSaid m items p key (refuses beyond_reach 0) → InRatio m items p key (refuses beyond_reach 0)
  said_beyond (PitchSaid.beyond i) = i

  said_outside : PitchSaid m items p key (refuses key_out_of_range 0) → P.Retuned m key → ⊥
  said_outside (PitchSaid.outside f) = f

  said_none : PitchSaid m items p key (refuses unmapped_key 0) → SilentWithin m key
  said_none (PitchSaid.silent x) = x

  said_no_reference : PitchSaid m items p key (refuses reference_unmapped 0) → NoReference m key
  said_no_reference (PitchSaid.reference_silent x) = x

  said_either : PitchSaid m items p key (refuses overflow 0) → EitherPast m key
  said_either (PitchSaid.past x) = x

-- m says of the keys what the mapping does; the root is usable, and so is the table
module _ (items : List Item) (kbm : Kbm) (map : List ℤ) (o : is_root kbm.root ≡ true) (t : is_table kbm.count map ≡ true)
    {m : P.Mapping} (a : SameKeys m (at_middle kbm) (table_of kbm.count map)) (same : m.reference ≡ kbm.root.reference.0)
    (k : PianoKey) where
  abbrev es : List (Option ℤ)
  es = table_of kbm.count map

  abbrev p : Float
  p = kbm.root.pitch.0

  abbrev Here : Said Float → Type 0
  Here = KeySoundsFromMiddle items kbm es k

  abbrev There : Said Float → Type 0
  There = PitchSaid m items p k.0

  -- the key and the reference key, each by what it has and as published
  asked : AnsweredAs m k.0 (scale_degree_from_middle kbm map k)
  asked = answers (at_middle kbm) map t a k

  by_key : {A : Type 0} (s : Said ℤ) → (scale_degree_from_middle kbm map k ≡ s) ↔ A → Has (at_middle kbm) es k s ↔ A
  by_key s e = Iff.trans (Iff.symm (middle_has kbm map k t s)) e

  counted_by_reference : {A : Type 0} (s : Said ℤ) → (reference_degree kbm es ≡ s) ↔ A → ReferenceHas kbm es s ↔ A
  counted_by_reference s e = Iff.trans (Iff.symm (reference_has kbm es s)) e

  key_sounds : (d : ℤ) → Has (at_middle kbm) es k (gives d) ↔ SoundsWithin m k.0 d
  key_sounds d = by_key (gives d) (asked.degree d)

  key_past : Has (at_middle kbm) es k (refuses overflow 0) ↔ SoundsPast m k.0
  key_past = by_key (refuses overflow 0) asked.past

  key_outside : Has (at_middle kbm) es k (refuses key_out_of_range 0) ↔ (P.Retuned m k.0 → ⊥)
  key_outside = by_key (refuses key_out_of_range 0) asked.outside

  key_silent : Has (at_middle kbm) es k (refuses unmapped_key 0) ↔ SilentWithin m k.0
  key_silent = by_key (refuses unmapped_key 0) asked.silent

  root_sounds : (r : ℤ) → ReferenceHas kbm es (gives r) ↔ ReferenceSounds m r
  root_sounds r = counted_by_reference (gives r) ((reference_answers kbm a same).degree r)

  root_silent : ReferenceHas kbm es (refuses reference_unmapped 0) ↔ ReferenceSilent m
  root_silent = counted_by_reference (refuses reference_unmapped 0) (reference_answers kbm a same).silent

  root_past : ReferenceHas kbm es (refuses overflow 0) ↔ ReferencePast m
  root_past = counted_by_reference (refuses overflow 0) (reference_answers kbm a same).past

  -- what the call says is as published, and back
  there : {s : Said Float} → Here s → There s
  there (KeySoundsFromMiddle.outside h e) = rw e (PitchSaid.outside (key_outside.0 h))
  there (KeySoundsFromMiddle.passed h e) = rw e (PitchSaid.past (EitherPast.asked (key_past.0 h)))
  there (KeySoundsFromMiddle.unmapped h e) = rw e (PitchSaid.silent (key_silent.0 h))
  there (KeySoundsFromMiddle.reference_passed d h r e) =
      rw e (PitchSaid.past (EitherPast.reference d ((key_sounds d).0 h) (root_past.0 r)))
  there (KeySoundsFromMiddle.reference_none d h r e) =
      rw e (PitchSaid.reference_silent (record { degree = d; asked = (key_sounds d).0 h; reference = root_silent.0 r }))
  there (KeySoundsFromMiddle.sounds d root h r e (ReachedOrBeyond.reached x c f)) =
      rw f (PitchSaid.pitch x
      (record { degree = d; root = root; sounds = (key_sounds d).0 h; reference = (root_sounds root).0 r; pitch = sym e ∙ f }))
  there (KeySoundsFromMiddle.sounds d root h r e (ReachedOrBeyond.beyond f)) =
      rw f (PitchSaid.beyond
      (record { degree = d; root = root; sounds = (key_sounds d).0 h; reference = (root_sounds root).0 r; pitch = sym e ∙ f }))

  ratio_back : {s : Said Float} → InRatio m items p k.0 s → Here s
  ratio_back i =
      KeySoundsFromMiddle.sounds i.degree i.root ((key_sounds i.degree).1 i.sounds) ((root_sounds i.root).1 i.reference)
      (sym i.pitch) (subst ReachedOrBeyond i.pitch (from_reached items p (hz_reach kbm.root o) i.root i.degree))

  either_back : EitherPast m k.0 → Here (refuses overflow 0)
  either_back (EitherPast.asked x) = KeySoundsFromMiddle.passed (key_past.1 x) refl
  either_back (EitherPast.reference d x r) = KeySoundsFromMiddle.reference_passed d ((key_sounds d).1 x) (root_past.1 r) refl

  back : {s : Said Float} → There s → Here s
  back (PitchSaid.pitch x i) = ratio_back i
  back (PitchSaid.beyond i) = ratio_back i
  back (PitchSaid.outside f) = KeySoundsFromMiddle.outside (key_outside.1 f) refl
  back (PitchSaid.silent x) = KeySoundsFromMiddle.unmapped (key_silent.1 x) refl
  back (PitchSaid.reference_silent x) =
      KeySoundsFromMiddle.reference_none x.degree ((key_sounds x.degree).1 x.asked) (root_silent.1 x.reference) refl
  back (PitchSaid.past x) = either_back x

  -- so each answer is given exactly where its case holds
  pitch_said : (s : Said Float) → (maybe_pitch_from_middle items kbm map k ≡ s) ↔ There s
  pitch_said s = Iff.trans (key_sounds_from_middle items kbm map k o s) (there, back)

  pitched : PitchedAs m items p k.0 (maybe_pitch_from_middle items kbm map k)
  pitched =
      record {
        pitch = λ x. Iff.trans (pitch_said (gives x)) (said_pitch, PitchSaid.pitch x);
        beyond = Iff.trans (pitch_said (refuses beyond_reach 0)) (said_beyond, PitchSaid.beyond);
        outside = Iff.trans (pitch_said (refuses key_out_of_range 0)) (said_outside, PitchSaid.outside);
        silent = Iff.trans (pitch_said (refuses unmapped_key 0)) (said_none, PitchSaid.silent);
        reference_silent = Iff.trans (pitch_said (refuses reference_unmapped 0)) (said_no_reference, PitchSaid.reference_silent);
        past = Iff.trans (pitch_said (refuses overflow 0)) (said_either, PitchSaid.past);
      }

-- ---- A MAPPING THAT IS GIVEN, with a usable root and table, whatever its offset: each key sounds what `published_of` says of it, by the
-- root's own pitch (its text has three decimals of that)
pub pitched_from_middle : (items : List Item) (kbm : Kbm) (map : List ℤ) → is_root kbm.root ≡ true → is_table kbm.count map ≡ true →
    (k : PianoKey) →
    PitchedAs (P.published_of kbm (table_of kbm.count map)) items kbm.root.pitch.0 k.0 (maybe_pitch_from_middle items kbm map k)
pitched_from_middle items kbm map o t k = pitched items kbm map o t (same_keys kbm map t (key (middle_of kbm.root)) refl) refl k

-- ---- A PUBLISHED TEXT THAT IS READ: m is what the text itself says, and each key sounds that, by the f64 nearest the text's frequency
module _ {s : List ℕ} {m : P.Mapping} (p : P.PublishedText s m) (w : WithinLimits p) (old : List ℤ) (room : m.size ≤ length old) where
  pub read_pitched : (k : Kbm) × (read_of (length old) s ≡ gives k)
      × ((items : List Item) (key : PianoKey) →
      PitchedAs m items (round binary64 false m.hertz (10 ^ m.places)) key.0
      (maybe_pitch_from_middle items k (after_read s old) key))
  read_pitched =
      let (k, read, t, a) = published_read p w old room in
      let o : is_root k.root ≡ true = rw a.pitch w.pitch in (
        k,
        read,
        (λ items n. rw (← a.pitch)
            (pitched items k (after_read s old) o t
            (agree_keys p (after_read s old) t a (key (middle_of k.root)) (middle_is p (after_read s old) t a)) a.reference n)),
      )
