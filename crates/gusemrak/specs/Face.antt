-- The answer of the face for C and Rust.
--   face x     an answer's six numbers: 0 and the numbers of an accepted call, or the refusal's number and place and zeros
use Rattle.meaning.specs.Answer as call
use Rattle.gusemrak.specs.declared.Answer.{Answer}

abbrev pub face : call.Answer → Answer
face (call.accepted a b c d) = record { number = 0; place = 0; a = a; b = b; c = c; d = d }
face (call.refused n p) = record { number = n; place = p; a = 0; b = 0; c = 0; d = 0 }
