-- `write_image` meets its contract. Assumes nothing.
use Rattle.compile.proofs.Reading.{known_start, room_left}
use Rattle.compile.proofs.Records.{image_few, image_wrote}
use Rattle.compile.proofs.write.write_image.Goals as goal

pub write_edges-requires : goal.write_edges-requires
write_edges-requires c =
    let x = c.requires in
    let d = c.args.out.now in
    (known_start x.0 d x.1 x.2 c.write_places.ensures, room_left x.0 d x.1 x.2 c.write_places.ensures)

pub write-requires : goal.write-requires
write-requires c = rw c.count.ensures (image_few c.requires.0 c.requires.1)

pub returns : goal.returns
returns c =
    image_wrote c.requires.0 c.args.out.now c.requires.1 c.write_places.ensures c.write_edges.ensures
    (rw c.count.ensures at c.write.ensures)
