-- When a stored visible part may be kept (docs/CACHE.md): demand 3 in the words of the desk. The premises are those of `Enough`.
use Rattle.std.specs.Prelude.{◌⊎◌, ℕ, List}
use Rattle.std.proofs.Common.{sym, ◌∙◌, inl, inr}
use Rattle.meaning.specs.Answer.{Answer}
use Rattle.promises.specs.Demand.{Acceptance, InTheCall, ByItself, ShortOfRoom, Agreeing, Demand3}
use Rattle.promises.specs.Proof.{has_room}
use Rattle.promises.proofs.Demanded.{demand_3}
use Rattle.promises.proofs.Alone.{demand_3_alone}
use Rattle.promises.proofs.Reaches.{is_enough}
use Rattle.promises.specs.Stored.{UpToDate, MayBeKept}

still_up_to_date : (stored : List ℕ) (r r' : Answer) → Agreeing r r' → UpToDate stored r → ShortOfRoom r' ⊎ UpToDate stored r'
still_up_to_date stored r r' (inl q) h = absurd (has_room r h.is_accepted q)
still_up_to_date stored r r' (inr (inl q)) h = inl q
still_up_to_date stored r r' (inr (inr q)) h = inr (record { is_accepted = sym q.number ∙ h.is_accepted; shows = sym q.visible_lines ∙ h.shows })

kept_by : (OthersAccepted : Acceptance) → Demand3 OthersAccepted → MayBeKept OthersAccepted
kept_by OthersAccepted demand asked texts texts' ms ms' c memory memory' output output' stored h =
    still_up_to_date stored _ _ (demand asked texts texts' ms ms' (is_enough OthersAccepted asked texts texts' ms ms' c) memory memory' output output') h

pub may_be_kept : MayBeKept InTheCall
may_be_kept = kept_by InTheCall demand_3

-- where each other module was accepted when it was asked by itself
pub may_be_kept_alone : MayBeKept ByItself
may_be_kept_alone = kept_by ByItself demand_3_alone
