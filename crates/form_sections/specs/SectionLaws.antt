-- Laws of sections as words: what is written is read back, and whatever is read can be written.
use Rattle.std.specs.Prelude.{◌≡◌, refl, Bool, true, false, ℕ, ◌+◌, ◌-◌, ◌<◌, eqb}
use Rattle.std.proofs.Common.{arith, lt-ltb, ne_eqb}
use Rattle.std.proofs.lemmas.Bool.{eqb-false}
use Rattle.meaning.specs.Lists.{pick}
use Rattle.form_sections.specs.Sections.{section_word, word_section}
use Rattle.form_sections.specs.declared.Section.{Section}
use Rattle.form_sections.specs.declared.Section.TheVariants.{Export, Hidden, Parameter}

-- a parameter's word leaves room for the two words of the other sections
abbrev pub IsWord : Section → Type 0
IsWord Export = Unit {0}
IsWord Hidden = Unit {0}
IsWord (Parameter p) = p < 4294967294

pub section_back : (s : Section) → IsWord s → word_section (section_word s) ≡ s
unfolding section_word word_section pick
section_back Export h = refl
section_back Hidden h = refl
section_back (Parameter p) h =
    let e : p + 2 - 2 ≡ p = omega arith in
    rw (lt-ltb p 4294967294 h, ne_eqb (p + 2) 0 (λ q. omega arith), ne_eqb (p + 2) 1 (λ q. omega arith), e)

pub section_is_word : (w : ℕ) → w < 4294967296 → IsWord (word_section w)
unfolding word_section pick
section_is_word w h = go (eqb w 0) (eqb w 1) refl refl
  where
    go : (p q : Bool) → eqb w 0 ≡ p → eqb w 1 ≡ q → IsWord (pick p Export (pick q Hidden (Parameter (w - 2))))
    go true q e f = tt
    go false true e f = tt
    go false false e f = let g = eqb-false w 0 e in let k = eqb-false w 1 f in omega arith
