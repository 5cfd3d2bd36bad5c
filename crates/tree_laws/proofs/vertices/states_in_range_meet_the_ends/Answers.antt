use Rattle.tree_laws.proofs.BegunVertices.{state-meets, begin-agrees, truths_asked}
use Rattle.tree_laws.proofs.vertices.states_in_range_meet_the_ends.Goals as goal

pub returns-clause-meets : goal.returns-clause-meets
returns-clause-meets c = λ g s clk inside begun early received word of_received of_word before terms_before sum_before arrive drawn. state-meets g s inside begun clk early received word of_received of_word before terms_before sum_before arrive drawn

pub returns-clause-begins : goal.returns-clause-begins
returns-clause-begins c = λ g s clk inside begun early received word of_received of_word before terms_before sum_before arrive drawn so_far begins. begin-agrees g s inside begun clk early received word of_received of_word before terms_before sum_before arrive drawn so_far begins

pub returns-clause-truths : goal.returns-clause-truths
returns-clause-truths c = λ g s clk inside early declared e k is. truths_asked g s inside clk early declared e k is
