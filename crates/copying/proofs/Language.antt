-- THE THEOREMS OF `kbmcopy`, document 01, "Writing": it "reads a mapping from standard input and prints its export, or one line
-- `refused NUMBER DETAIL`". What is printed, over the language of mappings. Assumes nothing.
use Rattle.std.specs.Prelude.{Option, ℤ}
use mathlib.Core.Path.{◌≡◌, refl, sym, ap, ◌∙◌}
use mathlib.Core.Bool.{Bool, true, false}
use mathlib.Core.List.{List}
use mathlib.Core.Logic.{◌⊎◌, ◌↔◌, inl, inr}
use Prim.Native.Nat.{ℕ, ◌≤◌, ◌<◌}
use native.Mathlib.Omega.{arith}
use lib.Dec.{ltb}
use lib.ListN.{length}
use borrow.Author.Tests.{ltb-true, ltb-false}
use Rattle.base.specs.Numbers.{no_room}
use Rattle.base.specs.Said.{Said, gives, refuses}
use Rattle.kbm.specs.declared.Kbm.{Kbm}
use Rattle.kbm_read.specs.Reader.{read_of, entries_in}
use Rattle.kbm_read.proofs.Language.{accepts, refuses_fault}
use Rattle.kbm_write.specs.Export.{export_text}
use Rattle.copying.specs.Copy.{refused_text, printed}
use Rattle.copying.specs.Prints.{Copied, Faulty, Prints}
use Rattle.copying.proofs.Copies.{printed_long, printed_short, copy_says}

module _ (s : List ℕ) where
  -- "prints its export": of every mapping file of at most 65,536 bytes with at most 8,192 entries, so that none is refused for what
  -- it is or for want of room
  pub prints_export : (k : Kbm) (es : List (Option ℤ)) → Copied s k es → printed s ≡ export_text k es
  prints_export k es c =
      let a = (accepts 8192 s k es).1 (c.mapping, c.places) in
      printed_short s c.short ∙ copy_says s a.0 ∙ ap (export_text k) a.1

  -- "or one line `refused NUMBER DETAIL`": the earliest fault of any other text
  pub prints_fault : (n d : ℕ) → Faulty s n d → printed s ≡ refused_text n d
  prints_fault n d f = printed_short s f.short ∙ copy_says s ((refuses_fault 8192 s n d).1 f.fault)

  -- "input over 65,536 bytes gives `refused 12 0`"
  pub prints_long : 65536 < length s → printed s ≡ refused_text no_room 0
  prints_long = printed_long s

  -- each text that is not longer is such a file or has such a fault
  pub copied_or_faulty : length s ≤ 65536 → ((k : Kbm) × (es : List (Option ℤ)) × Copied s k es) ⊎ ((n : ℕ) × (d : ℕ) × Faulty s n d)
  copied_or_faulty h = go (read_of 8192 s) refl
    where
      go : (x : Said Kbm) → read_of 8192 s ≡ x → ((k : Kbm) × (es : List (Option ℤ)) × Copied s k es) ⊎ ((n : ℕ) × (d : ℕ) × Faulty s n d)
      go (gives k) e =
          let a = (accepts 8192 s k (entries_in k.count s)).0 (e, refl) in
          inl (k, entries_in k.count s, record { short = h; mapping = a.0; places = a.1 })
      go (refuses n d) e = inr (n, d, record { short = h; fault = (refuses_fault 8192 s n d).0 e })

  -- and not both
  pub copied_not_faulty : (k : Kbm) (es : List (Option ℤ)) (n d : ℕ) → Copied s k es → Faulty s n d → ⊥
  copied_not_faulty k es n d c f =
      let a : read_of 8192 s ≡ gives k = ((accepts 8192 s k es).1 (c.mapping, c.places)).0 in
      let b : read_of 8192 s ≡ refuses n d = (refuses_fault 8192 s n d).1 f.fault in
      let z : ◌≡◌ {A = ℕ} 0 1 = cc in
      omega arith

  -- THE PROGRAM: a text is printed exactly when document 01 says so
  pub prints : (t : List ℕ) → (t ≡ printed s) ↔ Prints s t
  prints t = (forth, back)
    where
      by_text : t ≡ printed s → ((k : Kbm) × (es : List (Option ℤ)) × Copied s k es) ⊎ ((n : ℕ) × (d : ℕ) × Faulty s n d) → Prints s t
      by_text e (inl c) = Prints.copied c.0 c.1 c.2 (e ∙ prints_export c.0 c.1 c.2)
      by_text e (inr f) = Prints.faulty f.0 f.1 f.2 (e ∙ prints_fault f.0 f.1 f.2)

      by_length : t ≡ printed s → (b : Bool) → ltb 65536 (length s) ≡ b → Prints s t
      by_length e true h = let l = ltb-true 65536 (length s) h in Prints.long l (e ∙ prints_long l)
      by_length e false h = by_text e (copied_or_faulty (ltb-false 65536 (length s) h))

      forth : t ≡ printed s → Prints s t
      forth e = by_length e (ltb 65536 (length s)) refl

      back : Prints s t → t ≡ printed s
      back (Prints.copied k es c e) = e ∙ sym (prints_export k es c)
      back (Prints.faulty n d f e) = e ∙ sym (prints_fault n d f)
      back (Prints.long h e) = e ∙ sym (prints_long h)
