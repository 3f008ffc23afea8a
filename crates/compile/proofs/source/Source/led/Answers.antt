-- `led` meets its contract. Assumes nothing.
use Rattle.compile.proofs.Leading.{led_is}
use Rattle.compile.proofs.source.Source.led.Goals as goal

pub lead_rising-requires : goal.lead_rising-requires
lead_rising-requires c = c.args.self.now.ready.rising _

pub returns : goal.returns
returns c = led_is c.args.self.now.ready _ _ c.lead_rising.ensures
