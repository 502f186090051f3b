-- The decision on small specifications, computed; and a part that is held through two edits, with one module asked after each.
use Rattle.std.specs.Prelude.{◌≡◌, refl, ◌⊎◌, ℕ, [], ◌∷◌}
use Rattle.meaning.specs.Names.{Name}
use Rattle.meaning.specs.Numbers.{memory_size, program_output, accepted}
use Rattle.meaning.specs.Texts.{Texts, read_texts}
use Rattle.meaning.specs.Answer.{answer}
use Rattle.promises.specs.Demand.{ReadAs, ShortOfRoom}
use Rattle.promises.specs.Stored.{UpToDate}
use Rattle.promises_instances.specs.Instance.{modules_in, asked}
use Rattle.ask_decision.specs.Decide.{module_called}
use Rattle.ask_decision.specs.Again.{AnsweredZero}
use Rattle.ask_decision.specs.Held.{Held, by_asking, held_on}
use Rattle.ask_decision.proofs.Held.{held_up_to_date}
use Rattle.ask_decision.specs.Samples.{samples_opened, first_texts, second_texts, third_texts, samples_decided, stored}

zero_answered : (w : Name) (texts : Texts) → (answer memory_size program_output w texts).number ≡ accepted → AnsweredZero w texts
zero_answered w texts e = record { memory = memory_size; output = program_output; is_accepted = e }

held_first : Held asked first_texts stored
unfolding samples_opened first_texts
held_first = by_asking asked first_texts stored memory_size program_output (record { is_accepted = refl; shows = refl })

held_second : Held asked second_texts stored
unfolding samples_opened second_texts
held_second =
    held_on asked first_texts second_texts stored (1 ∷ []) samples_decided.0 (zero_answered (module_called second_texts 1) second_texts refl, tt) held_first

held_third : Held asked third_texts stored
unfolding samples_opened third_texts
held_third =
    held_on asked second_texts third_texts stored (1 ∷ []) samples_decided.2 (zero_answered (module_called third_texts 1) third_texts refl, tt) held_second

third_read : ReadAs third_texts (modules_in (read_texts third_texts))
unfolding samples_opened third_texts
third_read = record { reads = refl }

-- so the part stored with the first specification is that of the third
pub kept : (memory output : ℕ) → ShortOfRoom (answer memory output asked third_texts) ⊎ UpToDate stored (answer memory output asked third_texts)
kept memory output = held_up_to_date asked third_texts stored (modules_in (read_texts third_texts)) third_read held_third memory output
