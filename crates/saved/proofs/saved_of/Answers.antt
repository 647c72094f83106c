-- `saved::saved_of` meets its contract.
use Rattle.std.proofs.Common.{rules, tests, ◌∙◌}
use Rattle.std.proofs.lemmas.Iterator.{YieldsList-from_slice, YieldsList-from_zip}
use Rattle.std.proofs.lemmas.Iterator.Consumers.{count_from_yields_List, YieldsList-from_filter}
use Rattle.std.proofs.lemmas.Iterator.Consumers.{YieldsList-at}
use Rattle.taxa.specs.Most.{most}
use Rattle.saved.specs.Saved.{counts_as_saved}
use Rattle.saved.proofs.SavedLaws.{saved_zip}
use Rattle.saved.proofs.saved_of.Goals as goal

pub returns : goal.returns
returns c =
    let ys = c.args.ys.now in
    let ds = c.args.ds.now in
    count_from_yields_List c.filter.result c.count.result c.count.ensures.ran
    (YieldsList-from_filter _ (λ p. counts_as_saved most p.0 p.1)
    (YieldsList-at c.filter.ensures.source
    (YieldsList-from_zip (YieldsList-from_slice ys cc) (YieldsList-from_slice ds cc)))
    c.filter.ensures.closure (λ x r q k. search (rules, tests)))
    ∙ saved_zip most ys ds
