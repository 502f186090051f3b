-- The page has room for all that is printed, and it is written as it stands there.
use Rattle.responding.proofs.Whole.{page_front}
use Rattle.asfnorm.proofs.print_response.Goals as goal

pub returns : goal.returns
returns g c =
    let printed = page_front c.args.input.now c.args.work.now c.args.out.now c.args.page.now c.respond-size.result _ _ _ c.respond-size.ensures c.requires in
    rw printed at c.write_all.ensures.bytes
