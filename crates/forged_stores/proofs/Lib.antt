mod Forged
