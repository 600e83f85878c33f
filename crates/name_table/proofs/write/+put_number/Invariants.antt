use Rattle.name_table.proofs.write.+put_number.Given as goal

abbrev pub decreases-put_number : goal.decreases-put_number
decreases-put_number l = l.number
