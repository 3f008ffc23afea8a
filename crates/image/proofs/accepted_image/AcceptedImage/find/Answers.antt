-- `image::accepted_image::AcceptedImage::find` meets its contract. That the events rise is read off the accepted image's
-- facts.
-- Assumes nothing.
use Rattle.image.proofs.Accepted.{facts_of, events_small}
use Rattle.image.proofs.accepted_image.AcceptedImage.find.Goals as goal

pub windowed-requires : goal.windowed-requires
windowed-requires c =
    let e = c.edges-edges.ensures in
    let F = facts_of c.args.self.accepted in (
      c.requires.1,
      rw (e.0, e.1, e.2.is, e.3.is) (F.rising c.args.place c.requires.0),
      rw (e.0, e.1) (events_small _ _ _ _ c.args.self.small),
    )
