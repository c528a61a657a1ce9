-- The recursion: the remaining depth falls with each call.
use Rattle.path_grammar.proofs.+is_legal_within.Given as goal

abbrev pub decreases-is_legal_within : goal.decreases-is_legal_within
decreases-is_legal_within l = l.depth
