use Rattle.ttx_packet.proofs.Hamming84Lemmas.{decoded_implies_decodes, decodes_implies_decoded}
use Rattle.ttx_packet.proofs.laws.law_of_decoding.Goals as goal

pub returns : goal.returns
returns c = λ b n. (decoded_implies_decodes b n, decodes_implies_decoded b n)
