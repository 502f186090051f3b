-- From one step of a call to the next: what is read, found and evaluated, and what is sought.
use Rattle.std.specs.Prelude.{◌≡◌, ℕ, ◌+◌, ◌-◌, ◌<◌, ◌≤◌, Bool, Result, Ok, Err}
use Rattle.std.proofs.Math.Path.{sym, ap, subst}
use Rattle.std.proofs.Common.{◌∙◌}
use native.Mathlib.Omega.{arith}
use Rattle.std.proofs.Math.Bool.{true, false}
use mathlib.Core.List.{List, [], ◌++◌, map}
use Rattle.std.proofs.Math.ListN.{length, get_or, take, drop, length-append, length-drop}
use Rattle.std.proofs.Math.Seq.{length-take-le, take-take, take-append-le}
use Rattle.meaning.specs.Lists.{pick, before}
use Rattle.meaning.specs.Names.{Name, same, member}
use Rattle.meaning.specs.Numbers.{memory_size, asked_absent}
use Rattle.meaning.specs.Syntax.{Module}
use Rattle.laws.specs.Distinct.{read_fresh}
use Rattle.meaning.specs.Texts.{Reading, two_texts, refused_in, read_texts}
use Rattle.meaning.specs.Normal.{Normal, empty}
use Rattle.meaning.specs.Checks.{lone}
use Rattle.meaning.specs.Reached.{normalised, refused_at, in_turn, reached, module_names, short_or_blank, normalise}
use Rattle.meaning.specs.Answer.{refusal, of_ended, unread, of_read}
use Rattle.text_names.specs.Word.{name_of}
use Rattle.text_names.specs.Joint.{joint}
use Rattle.read_both.specs.declared.NotRead.{NotRead}
use Rattle.read_both.specs.Both.{Both, Said}
use Rattle.tape.specs.Tape.{spelled, entries}
use Rattle.invariants.specs.Limits.{modules_few}
use Rattle.invariants.proofs.Limits.{limits_read}
use Rattle.form_rows.specs.Entries.{word_at, name_at}
use Rattle.invariants.specs.HiddenItems.{HiddenSound}
use Rattle.laws.specs.Outcomes.{Ends}
use Rattle.invariants.specs.HiddenEvaluated.{normalise_sound}
use Rattle.form.specs.Memory.{part}
use Rattle.form.specs.Verdicts.{culprit_of}
use Rattle.form_layout.specs.Layout.{tape_end}
use Rattle.modules.specs.Modules.{HeadsOf, declared, Heads}
use Rattle.modules.specs.ModuleLaws.{heads_number, declared_names}
use Rattle.modules.specs.Members.{member_found, member_absent}
use Rattle.modules.specs.ReachedLaws.{found_name, names_number}
use Rattle.modules.specs.Meant.{asked_number}
use Rattle.form_keeping.specs.Environment.{LastStands}
use Rattle.evaluate_module.specs.Sofar.{Told}
use Rattle.evaluate_turns.specs.declared.Normalised.{Normalised}
use Rattle.evaluate_turns.specs.declared.RefusedAt.{RefusedAt}
use Rattle.evaluate_turns.specs.Turns.{Ended, EndsAs, Given, AllTurned}
use Rattle.answer_listing.specs.Answered.{Evaluated}
use Rattle.asf.specs.Steps.{Spoken, Found, Refusing, Holding, SoughtAs, ModuleSought}
use Rattle.asf.specs.declared.Sought.{Sought}
use Rattle.asf.specs.declared.Unlisted.{Unlisted}
use Rattle.evaluate_turns.specs.ByNumber.{name_there}
use Rattle.meaning.specs.Reached as Reached
use Rattle.read_both.specs.Both as TwoTexts

-- ---- what is read

module _ (library text w : List ℕ) (size : ℕ) (sized : size ≡ memory_size) (there : size ≤ length w) (end : ℕ) (last : end ≡ tape_end) where
  abbrev tape : List ℕ
  tape = part w 0 end

  abbrev x : Reading
  x = read_texts (two_texts library text)

  pub end_within : end ≤ length w
  unfolding memory_size tape_end
  end_within = omega (arith, sized, there, last)

  pub tape_room : 65536 ≤ length tape
  unfolding tape_end
  tape_room = omega (arith, length-take-le (end - 0) w (omega (arith, end_within)), last)

  module _ (q : Both) (tape' : List ℕ) (e : TwoTexts.Told library text tape' q) where
    pub unread_sought : (m : NotRead) (asked : Name) → length tape' ≡ length tape → q ≡ Err m
        → Refusing asked x (tape' ++ drop (end - 0) (drop 0 w)) (unread m.in_library m.number m.place)
    unfolding of_read
    unread_sought m asked same_size d =
        let so : x ≡ refused_in m.in_library m.number m.place = subst (TwoTexts.Told library text tape') d e in
        let rest = drop (end - 0) (drop 0 w) in
        let front = length-take-le (end - 0) w (omega (arith, end_within)) in
        record {
          size = omega (arith, length-append tape' rest, same_size, front, length-drop (end - 0) w, sized, there);
          so = ap (of_read asked) so;
        }

    pub read_spoken : (t : ℕ) → q ≡ Ok t → Spoken x (joint library text) t (tape' ++ drop (end - 0) (drop 0 w))
    unfolding entries tape_end
    read_spoken t d =
        let says : Said library text t tape' = subst (TwoTexts.Told library text tape') d e in
        let rest = drop (end - 0) (drop 0 w) in
        let whole : length w ≤ length (tape' ++ rest) =
        omega (arith, length-append tape' rest, says.room, length-drop (end - 0) w, end_within, last) in
        let front : take t (part (tape' ++ rest) 0 t) ≡ take t tape' =
        take-take t (t - 0) (tape' ++ rest) (omega arith) ∙ take-append-le t tape' rest (omega (arith, says.within, says.room)) in
        record {
          size = omega (arith, whole, sized, there);
          tape = says.within;
          modules = says.modules;
          read_so = says.read_so;
          said = ap (map (spelled (joint library text))) front ∙ says.said;
          few = modules_few (two_texts library text) says.modules says.read_so;
          fresh = read_fresh (two_texts library text) says.modules says.read_so;
          limited = limits_read (two_texts library text) says.modules says.read_so;
          small = says.small;
        }

-- ---- what is found

module _ (x : Reading) (text : List ℕ) (t : ℕ) (w : List ℕ) (spoken : Spoken x text t w) where
  abbrev all : List Module
  all = spoken.modules

  pub tape_within : t ≤ length w
  unfolding memory_size tape_end
  tape_within = omega (arith, spoken.size, spoken.tape)

  pub tape_small : t < 4294967296
  unfolding tape_end
  tape_small = omega (arith, spoken.tape)

  module _ (h : Heads) (heads : HeadsOf (part w 0 t) t h) where
    pub spoken_told : Told text (part w 0 t) t h all
    spoken_told = record {
      spells = record {
        within = omega (arith, length-take-le (t - 0) (drop 0 w) (omega (arith, tape_within)));
        says = spoken.said;
        few = spoken.few;
        begun = heads;
      };
      fresh = spoken.fresh;
      limited = spoken.limited;
      small = spoken.small;
    }

    pub spoken_given : Given text t w h
    spoken_given = record { size = spoken.size; tape = spoken.tape; modules = all; told = spoken_told }

    count_so : h.count ≡ length (module_names all)
    count_so = heads_number text (part w 0 t) t all h spoken_told.spells ∙ sym (names_number all)

    module _ (asked : Name) (k : ℕ) (e : k ≡ before (λ (v : Name). same v asked) (declared text (part w 0 t) h)) where
      number_so : k ≡ before (same asked) (module_names all)
      number_so = e ∙ asked_number asked (declared text (part w 0 t) h) ∙ ap (before (same asked)) (declared_names text (part w 0 t) t all h spoken_told.spells)

      asked_found : (count : ℕ) → count ≡ h.count → k < count → Found asked x text t w h k
      asked_found count c l = record { spoken = spoken; heads = heads; number = number_so; there = omega (arith, c, l, count_so) }

      pub asked_meant : (count : ℕ) → count ≡ h.count → k < count → (w' : List ℕ) (what : Result Sought Unlisted) → ModuleSought text t w h k w' what
          → SoughtAs asked x text w' what
      asked_meant count c l w' what s = s.meant asked x (asked_found count c l)

      pub absent_sought : (count : ℕ) → count ≡ h.count → count ≤ k
          → Refusing asked x w (refusal asked_absent 0 asked (lone (short_or_blank asked)) 0)
      unfolding of_read of_ended normalise pick
      absent_sought count c l =
          let none : member asked (module_names all) ≡ false = member_absent asked (module_names all) (omega (arith, c, l, count_so, number_so)) in
          let ended : normalise asked all ≡ refused_at asked_absent 0 asked (lone (short_or_blank asked)) = rw none in
          record { size = spoken.size; so = ap (of_read asked) spoken.read_so ∙ ap (of_ended asked) ended }

-- ---- what is evaluated

-- a refusal is that of the meaning
refused_end : (text : List ℕ) (t : ℕ) (w : List ℕ) (r : RefusedAt) (e : Reached.Ended)
    → EndsAs text t w (Err r) e → e ≡ refused_at r.refusal.number r.count (name_of text r.name) (culprit_of text r.refusal.culprit)
refused_end text t w r (normalised counted n) h = absurd h
refused_end text t w r (refused_at told counted evaluating meant) h =
    λ i. refused_at (sym h.number_so i) (sym h.count_so i) (sym h.module_so i) (sym h.culprit_so i)

-- the last form stands for the normal form of the meaning
record NormalEnd (text : List ℕ) (t : ℕ) (w : List ℕ) (count last : ℕ) (e : Reached.Ended) : Type 0 where
  normal : Normal
  ended : e ≡ normalised count normal
  stands : LastStands text t w last normal
  sound : HiddenSound normal

normal_end : (text : List ℕ) (t : ℕ) (w : List ℕ) (r : Normalised) (e : Reached.Ended) → Ends HiddenSound e → EndsAs text t w (Ok r) e
    → NormalEnd text t w r.count r.last e
normal_end text t w r (normalised counted n) s h =
    record { normal = n; ended = ap (λ (c : ℕ). normalised c n) (sym h.count_so); stands = h.last_so; sound = s }
normal_end text t w r (refused_at told counted evaluating meant) s h = absurd h

module _ (asked : List ℕ) (x : Reading) (text : List ℕ) (t : ℕ) (w : List ℕ) (h : Heads) (k : ℕ) (found : Found asked x text t w h k) where
  abbrev ms : List Module
  ms = found.spoken.modules

  found_within : t ≤ length w
  found_within = tape_within x text t w found.spoken

  called_asked : name_at text (part w 0 t) (get_or h.places k 0) ≡ asked
  unfolding declared
  called_asked =
      let spells = (spoken_told x text t w found.spoken h found.heads).spells in
      let z : k ≡ 0 + k = omega arith in
      let few : k < h.count = omega (arith, found.there, names_number ms, heads_number text (part w 0 t) t ms h spells) in
      ap (λ (n : ℕ). name_at text (part w 0 t) (get_or h.places n 0)) z
      ∙ sym (name_there text (part w 0 t) h.places h.count 0 k few)
      ∙ ap (λ (ds : List Name). get_or ds k []) (declared_names text (part w 0 t) t ms h spells)
      ∙ ap (λ (n : ℕ). get_or (module_names ms) n []) found.number
      ∙ found_name (module_names ms) asked (omega (arith, found.number, found.there))

  ending : normalise asked ms ≡ in_turn (module_names ms) [] empty (reached asked ms)
  unfolding normalise pick
  ending =
      let there : member asked (module_names ms) ≡ true = member_found asked (module_names ms) (omega (arith, found.number, found.there)) in
      rw there

  answering : of_read asked x ≡ of_ended asked (normalise asked ms)
  unfolding of_read
  answering = ap (of_read asked) found.spoken.read_so

  module _ (e : Ended) (w' : List ℕ) (turned : AllTurned text t w h k e w') (size : length w' ≡ length w) where
    enough : memory_size ≤ length w'
    enough = omega (arith, size, found.spoken.size)

    ends : EndsAs text t w' e (normalise asked ms)
    ends =
        subst (EndsAs text t w' e) (sym ending)
        (turned.meant ms asked (spoken_told x text t w found.spoken h found.heads) found.number)

    refused_found : (r : RefusedAt) → e ≡ Err r
        → Refusing asked x w' (refusal r.refusal.number r.count (name_of text r.name) (culprit_of text r.refusal.culprit) 0)
    unfolding of_ended
    refused_found r d =
        let end = refused_end text t w' r (normalise asked ms) (subst (λ (x : Ended). EndsAs text t w' x (normalise asked ms)) d ends) in
        record { size = enough; so = answering ∙ ap (of_ended asked) end }

    form_found : (name : ℕ) (r : Normalised) → name ≡ word_at (part w 0 t) (get_or h.places k 0) → e ≡ Ok r
        → Holding asked x text w' t name r.count r.last
    form_found name r n d =
        let end = normal_end text t w' r (normalise asked ms) (normalise_sound asked ms)
        (subst (λ (x : Ended). EndsAs text t w' x (normalise asked ms)) d ends) in
        let form : Evaluated asked x text t w' name r.count r.last = record {
          tape = omega (arith, size, found_within);
          normal = end.normal;
          stands = end.stands;
          sound = end.sound;
          called = ap (name_of text) n ∙ called_asked;
          ended = answering ∙ ap (of_ended asked) end.ended;
        } in
        record { size = enough; form = form }

module _ (text : List ℕ) (t : ℕ) (w : List ℕ) (h : Heads) (k : ℕ) (e : Ended) (w' : List ℕ) (turned : AllTurned text t w h k e w')
    (size : length w' ≡ length w) where
  pub refused_sought : (r : RefusedAt) → e ≡ Err r
      → ModuleSought text t w h k w' (Err (Unlisted.Refused r))
  refused_sought r d =
      record { meant = λ asked x found. refused_found asked x text t w h k found e w' turned size r d }

  pub form_sought : (name : ℕ) (r : Normalised) → name ≡ word_at (part w 0 t) (get_or h.places k 0) → e ≡ Ok r
      → ModuleSought text t w h k w' (Ok (record { t = t; name = name; count = r.count; last = r.last }))
  form_sought name r n d =
      record { meant = λ asked x found. form_found asked x text t w h k found e w' turned size name r n d }
