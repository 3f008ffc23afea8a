-- The range gives each place, the filter those of the kept. Assumes nothing.
use Rattle.std.proofs.Common.{rules, ◌≡◌, length, arith, ◌∙◌}
use Rattle.std.specs.List.{filter, range_with_len}
use Rattle.std.proofs.lemmas.Iterator.{YieldsList-from_range}
use Rattle.std.proofs.lemmas.Iterator.Consumers.{count_from_yields_List, YieldsList-from_filter}
use Rattle.lists.specs.Short.{is_kept}
use Rattle.lists.proofs.Keeping.{kept_counted}
use Rattle.lists.proofs.count_kept.Goals as goal

pub returns : goal.returns
returns c =
    let rs = c.args.records.now in
    let n = length rs in
    let k : c.count.result ≡ length (filter (is_kept rs) (range_with_len 0 n)) =
    count_from_yields_List c.filter.result c.count.result c.count.ensures.ran
    (YieldsList-from_filter _ (is_kept rs) (YieldsList-from_range 0 n n c.filter.ensures.source (omega arith))
    c.filter.ensures.closure (λ x b q k. search rules)) in
    k ∙ kept_counted rs
