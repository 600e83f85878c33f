use Rattle.name_table.proofs.number.+number_within.Given as goal

abbrev pub decreases-number_within : goal.decreases-number_within
decreases-number_within l = l.room
