-- What an accepted image answers where a run asks it.
--   questions_of        an accepted image as questions
use Rattle.meaning.specs.Questions.{Image}
use Rattle.image.specs.Form.{form1}
use Rattle.image.specs.Questions.{questions_at}
use Rattle.image.specs.declared.accepted_image.AcceptedImage.{AcceptedImage}

abbrev pub questions_of : AcceptedImage → Image
questions_of image = questions_at form1 image.bytes.now image.places
