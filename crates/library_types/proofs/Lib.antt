mod Agree
