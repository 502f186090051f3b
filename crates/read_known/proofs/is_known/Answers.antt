-- `read_known::is_known` meets its contract.
-- Assumes nothing.
use Rattle.std.proofs.Common.{ℕ, ◌∙◌, rules, tests}
use Rattle.std.proofs.lemmas.Iterator.{YieldsList-from_slice}
use Rattle.std.proofs.lemmas.Iterator.Search.{any_from_yields_List}
use Rattle.meaning.specs.Names.{same}
use Rattle.text_names.specs.Word.{name_of}
use Rattle.read_known.proofs.Cases.{known_any}
use Rattle.read_known.proofs.is_known.Goals as goal

pub returns : goal.returns
returns c =
    let n = name_of c.args.text.now c.args.w in
    let library = c.args.library.now in
    let heads = c.args.heads.now in
    any_from_yields_List (λ (v : ℕ). same n (name_of library v)) _ _ c.any.result c.any.ensures.ran (YieldsList-from_slice heads cc) (λ x b q k. search (rules, tests))
    ∙ known_any n library heads
