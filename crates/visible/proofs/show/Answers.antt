-- All that there is to read, up to the limit, is read before its visible part is written.
use Rattle.std.specs.declared.option.Option.{Option}
use Rattle.std.specs.Option.{option_map}
use Rattle.std.specs.Prelude.{Some, None, IfSome}
use Rattle.std.proofs.Common.{rules, ◌≡◌, ℕ, List, ◌++◌, [], take}
use Rattle.std.proofs.lemmas.Option.{IfSome_then}
use Rattle.std.proofs.lemmas.Result.{on_ok_weaker}
use Rattle.visible.proofs.show.Goals as goal

-- of known bytes, those up to the limit
up_to : (limit : ℕ) (known : Option (List ℕ)) (before all lent : List ℕ) → before ≡ [] → lent ≡ all
    → IfSome (option_map (take limit) known) (λ xs. all ≡ before ++ xs) → IfSome known (λ bytes. lent ≡ take limit bytes)
up_to limit None before all lent none same h = tt
up_to limit (Some bytes) before all lent none same h = search rules

pub returns : goal.returns
returns g c =
    let known = g.R.Read.remaining c.args.input in
    let listed : IfSome known (λ bytes. c.as_slice.result.now ≡ take 65536 bytes) =
    rw (c.take.ensures.limit, c.take.ensures.inner) at (up_to _ _ _ _ _ c.new-listing.ensures.items c.as_slice.ensures.value c.in_ok-read_to_end.ensures.bytes) in
    on_ok_weaker c.write_all.result (λ written. IfSome_then known listed (λ bytes e. search rules)) c.write_all.ensures.bytes
